use Rattle.std.proofs.Common.{◌≡◌, ℕ, List, Result, Ok, Err, refl}
use Rattle.std.specs.Result.{result_map_both}
use Rattle.jiff_core.specs.declared.error.Error.{Error}
use Rattle.jiff_fmt.specs.Reader.{◌>>=◌}
use Rattle.jiff_fmt.specs.Temporal.{DateParts, DateTimeParts, TimeParts, full, temporal_datetime, to_date, to_datetime, time_or_midnight, parse_date, parse_datetime}

one_date : (time : TimeParts) (r : Result DateParts Error) → result_map_both (λ (both : DateParts × TimeParts). both.0) (λ e. e) (r >>= (λ d. Ok (d, time))) ≡ r
one_date time (Ok d) = refl
one_date time (Err e) = refl

same_date : (r : Result DateTimeParts Error) → result_map_both (λ both. both.0) (λ e. e) (r >>= to_datetime) ≡ r >>= to_date
same_date (Ok p) = one_date (time_or_midnight p.time) (to_date p)
same_date (Err e) = refl

pub read_alike : (s : List ℕ) → result_map_both (λ both. both.0) (λ e. e) (parse_datetime s) ≡ parse_date s
read_alike s = same_date (full (temporal_datetime s))
