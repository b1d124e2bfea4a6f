-- The year, the month and the day of a text.
use Rattle.std.specs.Prelude.{ℕ, ℤ, pos, ◌-◌, List, codes, length, take, nat_eq, Option, Some, None, Result, Ok, Err, if◌then◌else◌}
use Rattle.std.specs.List.{ends_with}
use Rattle.std.specs.Str.{bytes_eq}
use Rattle.jiff_core.specs.declared.error.Error.{Error}
use Rattle.jiff_fmt.specs.Temporal.{DateParts, parse_date}

-- without one last `Z`, the capital letter
abbrev pub without_mark : List ℕ → List ℕ
without_mark s = if ends_with nat_eq s (codes "Z") then take (length s - 1) s else s

-- the number that the name means
abbrev pub part_named : List ℕ → DateParts → Option ℤ
part_named name date =
    if bytes_eq name (codes "Year") then Some date.year else (
    if bytes_eq name (codes "Month") then Some (pos date.month) else (
    if bytes_eq name (codes "Day") then Some (pos date.day) else None))

abbrev pub part_read : List ℕ → Result DateParts Error → Option ℤ
part_read name (Ok date) = part_named name date
part_read name (Err e) = None

-- the year, month or day of a text that is a date, or a date with a time, after one last `Z` is taken off: four digits or a sign and six
-- for the year, and then month and day, with dashes before both or before none; a time follows a space, `T` or `t`, and it and what may
-- follow it do not matter
abbrev pub date_part : List ℕ → List ℕ → Option ℤ
date_part name s = part_read name (parse_date (without_mark s))
