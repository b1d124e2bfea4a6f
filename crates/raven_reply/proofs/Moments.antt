-- Moments as the library prints them are moments as they are to be printed.
use Rattle.std.proofs.Common.{◌≡◌, ℕ, zero, suc, ◌+◌, ◌-◌, ◌*◌, ◌/◌, ◌%◌, ◌<◌, ◌≤◌, List, [], ◌∷◌, ◌++◌, nat_lt, refl, sym, ap, ◌∙◌, arith, pos, Some, false, subst}
use Rattle.std.proofs.lemmas.Bool.{ltb-true, ltb-false}
use Rattle.spec_data.specs.Moments.{Day, day_in, day_from, day_of, month_length, year_length, digits, day_text, time_text as clock_text, moment_before}
use Rattle.spec_data.specs.Limits.{moments_end}
use Rattle.jiff_core.specs.declared.civil.date.Date.{Date}
use Rattle.jiff_core.specs.declared.civil.time.Time.{Time}
use Rattle.jiff_core.specs.declared.civil.datetime.DateTime.{DateTime}
use Rattle.jiff_core.specs.declared.timestamp.Timestamp.{Timestamp}
use Rattle.jiff_core.specs.Calendar.{day_count, days_in_year, days_in_month, IsCivilDate}
use Rattle.jiff_core.specs.Date.{epoch_day}
use Rattle.jiff_core.specs.Time.{time_nanos}
use Rattle.jiff_core.specs.DateTime.{civil_nanos}
use Rattle.jiff_core.proofs.CalendarLemmas.{day_count-day, day_count-next_month, day_count-next_year, day_count-last_of_year, day_count-end, day_count-epoch, days_from_civil-day_count, days_in_month_bounds}
use Rattle.jiff_core.proofs.DateLemmas.{epoch_day_injective}
use Rattle.jiff_core.proofs.DateTimeLemmas.{civil_nanos-parts, time_nanos_bound}
use Rattle.jiff_core.proofs.SignedLemmas.{signed_arith}
use Rattle.jiff_fmt.proofs.Cases.{by_bool}
use Rattle.jiff_fmt.specs.declared.temporal.printer.DateTimePrinter.{DateTimePrinter}
use Rattle.jiff_fmt.specs.Printer.{options, IsTimestampText}
use Rattle.jiff_fmt.specs.Text.{pad2, pad4, places, date_text, time_text, datetime_text, zulu_text, year_text}

-- THE CALENDAR

-- a day that the calendar has, with so many days since the year -10000 before it
record IsDayAt (count : ℕ) (on : Day) : Type 0 where
  civil : IsCivilDate (pos on.year) on.month on.day
  counted : day_count (pos on.year) on.month on.day ≡ count

-- a day of this month
in_month : (year month days : ℕ) → year ≤ 9999 → 1 ≤ month → month ≤ 12 → days < days_in_month (pos year) month
    → IsDayAt (day_count (pos year) month 1 + days) (record { year = year; month = month; day = days + 1 })
in_month year month days last low high fits = record {
  civil = (omega (arith, signed_arith), (omega arith, omega arith), (omega arith, omega arith));
  counted = omega (arith, day_count-day (pos year) month 1 (days + 1) (omega arith) (omega arith));
}

-- months are walked until December
day_in_is : (more year month days : ℕ) → month + more ≡ 12 → 1 ≤ month → year ≤ 9999
    → day_count (pos year) month 1 + days < day_count (pos year) 1 1 + days_in_year (pos year)
    → IsDayAt (day_count (pos year) month 1 + days) (day_in more year month days)
unfolding day_in
day_in_is zero year month days twelve low last fits =
    let december : month ≡ 12 = omega arith in
    let fits_december : day_count (pos year) 12 1 + days < day_count (pos year) 1 1 + days_in_year (pos year) = rw december at fits in
    in_month year month days last low (omega arith)
    (rw december (omega (arith, day_count-last_of_year (pos year), day_count-day (pos year) 12 1 31 (omega arith) (omega arith))))
day_in_is (suc more) year month days twelve low last fits =
    by_bool (nat_lt days (month_length year month))
    (λ here. rw here (in_month year month days last low (omega arith) (ltb-true _ _ here)))
    (λ later. rw later
    (let long : days_in_month (pos year) month ≤ days = ltb-false _ _ later in
    let next = day_count-next_month (pos year) month low in
    let same : day_count (pos year) (month + 1) 1 + (days - month_length year month) ≡ day_count (pos year) month 1 + days = omega arith in
    subst (λ n. IsDayAt n (day_in more year (month + 1) (days - month_length year month))) same
    (day_in_is more year (month + 1) (days - month_length year month) (omega arith) (omega arith) last (omega arith))))

-- and years until 9999
day_from_is : (more year days : ℕ) → year + more ≡ 9999
    → day_count (pos year) 1 1 + days < day_count (pos 10000) 1 1
    → IsDayAt (day_count (pos year) 1 1 + days) (day_from more year days)
unfolding day_from
day_from_is zero year days end fits =
    let last : year ≡ 9999 = omega arith in
    let next = day_count-next_year (pos year) (pos 10000) (omega (arith, signed_arith)) (omega (arith, signed_arith)) in
    day_in_is 11 year 1 days refl (omega arith) (omega arith) (omega arith)
day_from_is (suc more) year days end fits =
    by_bool (nat_lt days (year_length year))
    (λ here. rw here
    (let short : days < days_in_year (pos year) = ltb-true _ _ here in
    day_in_is 11 year 1 days refl (omega arith) (omega arith) (omega arith)))
    (λ later. rw later
    (let long : days_in_year (pos year) ≤ days = ltb-false _ _ later in
    let next = day_count-next_year (pos year) (pos (year + 1)) (omega (arith, signed_arith)) (omega (arith, signed_arith)) in
    let same : day_count (pos (year + 1)) 1 1 + (days - year_length year) ≡ day_count (pos year) 1 1 + days = omega arith in
    subst (λ n. IsDayAt n (day_from more (year + 1) (days - year_length year))) same
    (day_from_is more (year + 1) (days - year_length year) (omega arith) (omega arith))))

day_of_is : (days : ℕ) → days < 2_932_897 → IsDayAt (4_371_953 + days) (day_of days)
day_of_is days fits =
    subst (λ n. IsDayAt (n + days) (day_of days)) day_count-epoch
    (day_from_is 8029 1970 days (omega arith) (omega (arith, day_count-epoch, day_count-end)))

-- as a date of the library
date_of : (count : ℕ) (on : Day) → IsDayAt count on → Date
date_of count on h = record { year = pos on.year; month = on.month; day = on.day; year_in = h.civil.0; month_in = h.civil.1; day_in = h.civil.2 }

-- a date of the library is the day that is so many days after the first of January 1970
date_is : (d : Date) (days : ℕ) → days < 2_932_897 → epoch_day d ≡ pos days
    → (d.year ≡ pos (day_of days).year) × (d.month ≡ (day_of days).month) × (d.day ≡ (day_of days).day)
unfolding date_of
date_is d days fits e =
    let at = day_of_is days fits in
    let on = day_of days in
    let same : epoch_day (date_of _ on at) ≡ pos days = omega (arith, signed_arith, days_from_civil-day_count (pos on.year) on.month on.day, at.counted) in
    epoch_day_injective d (date_of _ on at) (e ∙ sym same)

-- DIGITS

two_digits : (n : ℕ) → n < 100 → pad2 n ≡ digits 2 n
two_digits n h =
    let tens : n / 10 ≡ n / 10 % 10 = omega arith in
    ap (λ t. (48 + t) ∷ (48 + n % 10) ∷ []) tens

four_digits : (n : ℕ) → n < 10000 → pad4 n ≡ digits 4 n
four_digits n h =
    let a : n / 100 / 10 ≡ n / 10 / 10 / 10 % 10 = omega arith in
    let b : n / 100 % 10 ≡ n / 10 / 10 % 10 = omega arith in
    let c : n % 100 / 10 ≡ n / 10 % 10 = omega arith in
    let d : n % 100 % 10 ≡ n % 10 = omega arith in
    λ i. (48 + a i) ∷ (48 + b i) ∷ (48 + c i) ∷ (48 + d i) ∷ []

-- the nanoseconds of a second in seven places, where they are whole microseconds
seven_places : (micros : ℕ) → micros < 1_000_000 → places 7 1_000_000_000 (micros * 1000) ≡ digits 6 micros ++ 48 ∷ []
unfolding places
seven_places micros h =
    let a : micros * 1000 / 100000000 ≡ micros / 10 / 10 / 10 / 10 / 10 % 10 = omega arith in
    let b : micros * 1000 % 100000000 / 10000000 ≡ micros / 10 / 10 / 10 / 10 % 10 = omega arith in
    let c : micros * 1000 % 100000000 % 10000000 / 1000000 ≡ micros / 10 / 10 / 10 % 10 = omega arith in
    let d : micros * 1000 % 100000000 % 10000000 % 1000000 / 100000 ≡ micros / 10 / 10 % 10 = omega arith in
    let e : micros * 1000 % 100000000 % 10000000 % 1000000 % 100000 / 10000 ≡ micros / 10 % 10 = omega arith in
    let f : micros * 1000 % 100000000 % 10000000 % 1000000 % 100000 % 10000 / 1000 ≡ micros % 10 = omega arith in
    let g : micros * 1000 % 100000000 % 10000000 % 1000000 % 100000 % 10000 % 1000 / 100 ≡ 0 = omega arith in
    λ i. (48 + a i) ∷ (48 + b i) ∷ (48 + c i) ∷ (48 + d i) ∷ (48 + e i) ∷ (48 + f i) ∷ (48 + g i) ∷ []

-- TEXTS

-- the date as it is printed
date_printed : (d : Date) (days : ℕ) → days < 2_932_897 → epoch_day d ≡ pos days → date_text d ≡ day_text (day_of days)
date_printed d days fits e =
    let on = day_of days in
    let is = date_is d days fits e in
    let year : year_text d.year ≡ digits 4 on.year = ap year_text is.0 ∙ four_digits on.year (omega (arith, signed_arith, d.year_in, is.0)) in
    let month : pad2 d.month ≡ digits 2 on.month = ap pad2 is.1 ∙ two_digits on.month (omega (arith, d.month_in, is.1)) in
    let day : pad2 d.day ≡ digits 2 on.day = ap pad2 is.2 ∙ two_digits on.day (omega (arith, d.day_in, is.2, days_in_month_bounds d.year d.month)) in
    λ i. year i ++ 45 ∷ [] ++ month i ++ 45 ∷ [] ++ day i

-- and the time of day
time_printed : (t : Time) (second micros : ℕ) → micros < 1_000_000 → time_nanos t ≡ (second * 1_000_000 + micros) * 1000
    → time_text (Some 7) t ≡ clock_text second ++ (46 ∷ (digits 6 micros ++ (48 ∷ [])))
time_printed t second micros small e =
    let hour : t.hour ≡ second / 3600 = omega arith in
    let minute : t.minute ≡ second / 60 % 60 = omega arith in
    let rest : t.second ≡ second % 60 = omega arith in
    let nanos : t.subsec_nanosecond ≡ micros * 1000 = omega arith in
    let hour_text : pad2 t.hour ≡ digits 2 (second / 3600) = ap pad2 hour ∙ two_digits (second / 3600) (omega arith) in
    let minute_text : pad2 t.minute ≡ digits 2 (second / 60 % 60) = ap pad2 minute ∙ two_digits (second / 60 % 60) (omega arith) in
    let second_text : pad2 t.second ≡ digits 2 (second % 60) = ap pad2 rest ∙ two_digits (second % 60) (omega arith) in
    let nanos_text : places 7 1_000_000_000 t.subsec_nanosecond ≡ digits 6 micros ++ 48 ∷ [] = ap (places 7 1_000_000_000) nanos ∙ seven_places micros small in
    λ i. hour_text i ++ 58 ∷ minute_text i ++ 58 ∷ second_text i ++ 46 ∷ nanos_text i

-- what the library prints of an instant of whole microseconds
moment_printed : (dt : DateTime) (moment : ℕ) → moment < moments_end → civil_nanos dt ≡ pos (moment * 1000)
    → datetime_text false 84 (Some 7) dt ++ zulu_text false ≡ moment_before moment
moment_printed dt moment fits e =
    let parts = civil_nanos-parts dt in
    let within = time_nanos_bound dt.time in
    let second = moment / 1_000_000 in
    let day : epoch_day dt.date ≡ pos (second / 86_400) = omega (arith, signed_arith) in
    let nanos : time_nanos dt.time ≡ (second % 86_400 * 1_000_000 + moment % 1_000_000) * 1000 = omega (arith, signed_arith) in
    let date = date_printed dt.date (second / 86_400) (omega arith) day in
    let time = time_printed dt.time (second % 86_400) (moment % 1_000_000) (omega arith) nanos in
    λ i. (date i ++ 84 ∷ time i) ++ 90 ∷ []

-- what a printer with upper case, `T` and seven places shows of a moment
pub shown_moment : (p : DateTimePrinter) (t : Timestamp) (text : List ℕ) (moment : ℕ) → moment < moments_end
    → options p ≡ (false, 84, Some 7) → t.nanosecond ≡ pos (moment * 1000) → IsTimestampText p t text → text ≡ moment_before moment
shown_moment p t text moment fits set at shown =
    shown.2
    ∙ (λ i. datetime_text (set i).0 (set i).1 (set i).2 shown.0 ++ zulu_text (set i).0)
    ∙ moment_printed shown.0 moment fits (shown.1 ∙ at)
