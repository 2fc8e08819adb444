-- Moments as the summary's table has them: `2024/09/05 08:53:20`, in UTC.
use Rattle.std.specs.Prelude.{◌≡◌, ℕ, ◌+◌, ◌*◌, ◌/◌, ◌%◌, ◌==◌, Bool, ◌&&◌, List, [], ◌∷◌, ◌++◌, nat_le, nat_lt, if◌then◌else◌, Option, Some, None, option_map, option_and_then, ℤ, pos, ◌+ℤ◌, ◌*ℤ◌, ◌≤ℤ◌, unsigned_abs}
use Rattle.cfb_medium.specs.Times.{units_at}
use Rattle.jiff_core.specs.Calendar.{days_from_civil, days_in_month}
use Rattle.jiff_core.specs.DateTime.{civil_seconds}
use Rattle.jiff_core.specs.declared.civil.date.Date.{Date}
use Rattle.jiff_core.specs.declared.civil.datetime.DateTime.{DateTime}
use Rattle.jiff_core.specs.declared.civil.time.Time.{Time}
use Rattle.idt_summaries.specs.Numbers.{whole_in}

-- ---- written

-- two digits of a number below 100
abbrev pub two : ℕ → List ℕ
two n = (48 + n / 10) ∷ (48 + n % 10) ∷ []

-- four digits of the year, two of the month and two of the day, with slashes between them
abbrev pub date_text : Date → List ℕ
date_text d = two (unsigned_abs d.year / 100) ++ two (unsigned_abs d.year % 100) ++ 47 ∷ two d.month ++ 47 ∷ two d.day

-- two digits of the hour, the minute and the second, with colons between them
abbrev pub time_text : Time → List ℕ
time_text t = two t.hour ++ 58 ∷ two t.minute ++ 58 ∷ two t.second

-- a date, a space and a time
abbrev pub moment_text : DateTime → List ℕ
moment_text it = date_text it.date ++ 32 ∷ time_text it.time

-- the text of a second, counted from 1970 on: that of the date and time which have this second
abbrev pub IsMoment : ℤ → List ℕ → Type 0
IsMoment second text = (it : DateTime) × (civil_seconds it ≡ second) × (text ≡ moment_text it)

-- the first second past the year 9999
abbrev pub years_end : ℤ
years_end = pos 253402300800

-- past the year 9999 there is no text
abbrev pub IsMomentCell : ℤ → Option (List ℕ) → Type 0
IsMomentCell second None = years_end ≤ℤ second
IsMomentCell second (Some text) = IsMoment second text

-- ---- read

infixl 10 ◌>>=◌
abbrev pub ◌>>=◌ : {A B : Type 0} → Option A → (A → Option B) → Option B
o >>= f = option_and_then f o

-- what stands in front of the first such byte, and behind it
abbrev pub cut_at : ℕ → List ℕ → Option (List ℕ × List ℕ)
cut_at c [] = None
cut_at c (b ∷ bs) = if b == c then Some ([], bs) else option_map (λ parts. (b ∷ parts.0, parts.1)) (cut_at c bs)

-- the calendar has this day, from -9999 to 9999
abbrev pub is_date : ℤ → ℕ → ℕ → Bool
is_date year month day = nat_le (unsigned_abs year) 9999 && (nat_le 1 month && nat_le month 12) && (nat_le 1 day && nat_le day (days_in_month year month))

-- its number, counted from 1970 on
abbrev pub day_of : ℤ → ℤ → ℤ → Option ℤ
day_of year (pos month) (pos day) = if is_date year month day then Some (days_from_civil year month day) else None
day_of year _ _ = None

-- a year, a month and a day, with slashes between them
abbrev pub day_in : List ℕ → Option ℤ
day_in text = do
  year ← cut_at 47 text
  month ← cut_at 47 year.1
  y ← whole_in 15 year.0
  m ← whole_in 7 month.0
  d ← whole_in 7 month.1
  day_of y m d

-- the second of a day
abbrev pub second_of : ℤ → ℤ → ℤ → Option ℕ
second_of (pos hour) (pos minute) (pos second) =
    if nat_lt hour 24 && nat_lt minute 60 && nat_lt second 60 then Some (hour * 3600 + minute * 60 + second) else None
second_of _ _ _ = None

-- an hour, a minute and a second, with colons between them
abbrev pub second_in : List ℕ → Option ℕ
second_in text = do
  hour ← cut_at 58 text
  minute ← cut_at 58 hour.1
  h ← whole_in 7 hour.0
  m ← whole_in 7 minute.0
  s ← whole_in 7 minute.1
  second_of h m s

-- a day and a second of it as a moment, in units of 100 ns from 1601 on
abbrev pub moment_at : ℤ → ℕ → ℕ
moment_at day second = units_at (day *ℤ pos 86400 +ℤ pos second) 0

-- a day, a space and a second
abbrev pub moment_in : List ℕ → Option ℕ
moment_in text = do
  parts ← cut_at 32 text
  day ← day_in parts.0
  second ← second_in parts.1
  Some (moment_at day second)
