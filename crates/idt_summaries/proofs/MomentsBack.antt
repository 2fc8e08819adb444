-- Moments that are written and read back.
use Rattle.std.proofs.Common.{◌≡◌, ◌∙◌, ℕ, ◌+◌, ◌-◌, ◌/◌, ◌%◌, ◌^◌, ◌<◌, ◌≤◌, Bool, true, false, List, [], ◌∷◌, ◌++◌, refl, sym, ap, ap₂, subst, arith, ℤ, pos, negsuc, neg_ℤ, ◌+ℤ◌, ◌*ℤ◌, ◌≤ℤ◌, unsigned_abs}
use Rattle.std.specs.Prelude.{nat_lt, nat_le, ◌==◌, if◌then◌else◌, Option, Some, None}
use Rattle.std.specs.Char.{digit_value}
use Rattle.std.specs.Str.Parse.{IsNumeral, digits_value}
use Rattle.std.proofs.lemmas.Bool.{and_parts}
use Rattle.std.proofs.lemmas.Bool.Decides.{nat_tests}
use Rattle.std.proofs.lemmas.Int.{by_lt_z}
use Rattle.cfb_medium.specs.Times.{unix_epoch, unix_seconds, units_at}
use Rattle.jiff_core.proofs.CalendarLemmas.{day_count-lt_year, days_from_civil-day_count}
use Rattle.jiff_core.proofs.DateLemmas.{civil}
use Rattle.jiff_core.proofs.DateTimeLemmas.{civil_nanos-civil_seconds}
use Rattle.jiff_core.proofs.MarchLemmas.{day_count-early}
use Rattle.jiff_core.proofs.SignedLemmas.{signed_arith}
use Rattle.jiff_core.specs.Calendar.{day_count, days_in_month}
use Rattle.jiff_core.specs.Date.{epoch_day}
use Rattle.jiff_core.specs.DateTime.{civil_nanos, civil_seconds}
use Rattle.jiff_core.specs.Time.{time_seconds}
use Rattle.jiff_core.specs.declared.civil.date.Date.{Date}
use Rattle.jiff_core.specs.declared.civil.datetime.DateTime.{DateTime}
use Rattle.jiff_core.specs.declared.civil.time.Time.{Time}
use Rattle.idt_summaries.proofs.Cuts.{IsFree, cut_found}
use Rattle.idt_summaries.proofs.Wholes.{and_both, digits_read}
use Rattle.idt_summaries.specs.Kept.{is_second}
use Rattle.idt_summaries.specs.Moments.{IsMoment, ◌>>=◌, cut_at, date_text, day_in, day_of, is_date, moment_at, moment_in, moment_text, second_in, second_of, time_text, two, years_end}
use Rattle.idt_summaries.specs.Numbers.{whole_in}

-- a date and time of whole seconds has that second
pub second_same : (it : DateTime) (second : ℤ) → civil_nanos it ≡ second *ℤ pos 1_000_000_000 → civil_seconds it ≡ second
second_same it second e = omega (arith, signed_arith, civil_nanos-civil_seconds it, it.time.subsec_in)

-- ---- digits

digit_of : (d : ℕ) → d < 10 → digit_value (48 + d) ≡ d
digit_of d h = grind (arith, nat_tests, h)

small : (n m : ℕ) → n < m → nat_lt n m ≡ true
small n m h = grind (arith, nat_tests, h)

within : (n m : ℕ) → n ≤ m → nat_le n m ≡ true
within n m h = grind (arith, nat_tests, h)

pub two_read : (n : ℕ) → n < 100 → whole_in 7 (two n) ≡ Some (pos n)
two_read n h =
    let first = digit_of (n / 10) (omega arith) in
    let last = digit_of (n % 10) (omega arith) in
    let is : IsNumeral 10 (two n) = (omega arith, (omega (arith, first), (omega (arith, last), tt))) in
    let value : digits_value 10 (two n) ≡ n = omega (arith, first, last) in
    digits_read 7 (two n) n is value (small n (2 ^ 7) (omega arith))

abbrev four : ℕ → List ℕ
four n = two (n / 100) ++ two (n % 100)

four_read : (n : ℕ) → n < 10000 → whole_in 15 (four n) ≡ Some (pos n)
four_read n h =
    let a = digit_of (n / 100 / 10) (omega arith) in
    let b = digit_of (n / 100 % 10) (omega arith) in
    let c = digit_of (n % 100 / 10) (omega arith) in
    let d = digit_of (n % 100 % 10) (omega arith) in
    let is : IsNumeral 10 (four n) = (omega arith, (omega (arith, a), (omega (arith, b), (omega (arith, c), (omega (arith, d), tt))))) in
    let value : digits_value 10 (four n) ≡ n = omega (arith, a, b, c, d) in
    digits_read 15 (four n) n is value (small n (2 ^ 15) (omega arith))

-- ---- cut

free_two : (c n : ℕ) → c < 48 → IsFree c (two n)
free_two c n h = ((λ e. absurd (omega arith)), ((λ e. absurd (omega arith)), tt))

high_two : (c n : ℕ) → 57 < c → n < 100 → IsFree c (two n)
high_two c n h l = ((λ e. absurd (omega arith)), ((λ e. absurd (omega arith)), tt))

free_append : (c : ℕ) (xs ys : List ℕ) → IsFree c xs → IsFree c ys → IsFree c (xs ++ ys)
free_append c [] ys h k = k
free_append c (x ∷ xs) ys h k = (h.0, free_append c xs ys h.1 k)

-- three parts
abbrev read_day : List ℕ → List ℕ → List ℕ → Option ℤ
read_day y m d = do
  year ← whole_in 15 y
  month ← whole_in 7 m
  day ← whole_in 7 d
  day_of year month day

abbrev read_time : List ℕ → List ℕ → List ℕ → Option ℕ
read_time h m s = do
  hour ← whole_in 7 h
  minute ← whole_in 7 m
  second ← whole_in 7 s
  second_of hour minute second

abbrev behind_year : List ℕ × List ℕ → Option ℤ
behind_year year = do
  month ← cut_at 47 year.1
  read_day year.0 month.0 month.1

abbrev behind_hour : List ℕ × List ℕ → Option ℕ
behind_hour hour = do
  minute ← cut_at 58 hour.1
  read_time hour.0 minute.0 minute.1

day_cut : (y m d : List ℕ) → IsFree 47 y → IsFree 47 m → day_in (y ++ 47 ∷ (m ++ 47 ∷ d)) ≡ read_day y m d
day_cut y m d f g =
    ap (λ o. o >>= behind_year) (cut_found 47 y (m ++ 47 ∷ d) f) ∙ ap (λ o. o >>= λ month. read_day y month.0 month.1) (cut_found 47 m d g)

time_cut : (h m s : List ℕ) → IsFree 58 h → IsFree 58 m → second_in (h ++ 58 ∷ (m ++ 58 ∷ s)) ≡ read_time h m s
time_cut h m s f g =
    ap (λ o. o >>= behind_hour) (cut_found 58 h (m ++ 58 ∷ s) f) ∙ ap (λ o. o >>= λ minute. read_time h minute.0 minute.1) (cut_found 58 m s g)

-- ---- dates and times

dated : (y : ℤ) (m d : ℕ) → unsigned_abs y ≤ 9999 → 1 ≤ m → m ≤ 12 → 1 ≤ d → d ≤ days_in_month y m → is_date y m d ≡ true
dated y m d year low high first last =
    and_both _ _ (and_both _ _ (within (unsigned_abs y) 9999 year) (and_both _ _ (within 1 m low) (within m 12 high))) (and_both _ _ (within 1 d first) (within d (days_in_month y m) last))

days_bound : (y : ℤ) (m : ℕ) → days_in_month y m ≤ 31
days_bound y m = grind arith

abbrev if_date : Bool → ℤ → Option ℤ
if_date is day = if is then Some day else None

date_back : (it : Date) → it.year ≡ pos (unsigned_abs it.year) → day_in (date_text it) ≡ Some (epoch_day it)
date_back it is =
    let year : unsigned_abs it.year < 10000 = omega (arith, signed_arith, it.year_in) in
    let days = days_bound it.year it.month in
    let month : it.month < 100 = omega (arith, it.month_in) in
    let day : it.day < 100 = omega (arith, it.day_in, days) in
    let y = four_read (unsigned_abs it.year) year in
    let read : read_day (four (unsigned_abs it.year)) (two it.month) (two it.day) ≡ day_of (pos (unsigned_abs it.year)) (pos it.month) (pos it.day) =
    ap (λ o. o >>= λ year. whole_in 7 (two it.month) >>= λ month. whole_in 7 (two it.day) >>= λ day. day_of year month day) y
    ∙ ap₂ (λ o p. o >>= λ month. p >>= λ day. day_of (pos (unsigned_abs it.year)) month day) (two_read it.month month) (two_read it.day day) in
    day_cut (four (unsigned_abs it.year)) (two it.month) (two it.day)
    (free_append 47 (two (unsigned_abs it.year / 100)) (two (unsigned_abs it.year % 100)) (free_two 47 (unsigned_abs it.year / 100) (omega arith)) (free_two 47 (unsigned_abs it.year % 100) (omega arith)))
    (free_two 47 it.month (omega arith))
    ∙ read
    ∙ ap (λ z. day_of z (pos it.month) (pos it.day)) (sym is)
    ∙ ap (λ b. if_date b (epoch_day it)) (dated it.year it.month it.day (omega (arith, year)) it.month_in.0 it.month_in.1 it.day_in.0 it.day_in.1)

abbrev if_time : Bool → ℕ → Option ℕ
if_time is second = if is then Some second else None

time_back : (it : Time) → second_in (time_text it) ≡ Some (time_seconds it)
time_back it =
    let hour : it.hour < 100 = omega (arith, it.hour_in) in
    let minute : it.minute < 100 = omega (arith, it.minute_in) in
    let second : it.second < 100 = omega (arith, it.second_in) in
    time_cut (two it.hour) (two it.minute) (two it.second) (high_two 58 it.hour (omega arith) hour) (high_two 58 it.minute (omega arith) minute)
    ∙ ap (λ o. o >>= λ h. whole_in 7 (two it.minute) >>= λ m. whole_in 7 (two it.second) >>= λ s. second_of h m s) (two_read it.hour hour)
    ∙ ap₂ (λ o p. o >>= λ m. p >>= λ s. second_of (pos it.hour) m s) (two_read it.minute minute) (two_read it.second second)
    ∙ ap (λ b. if_time b (time_seconds it)) (and_both _ _ (and_both _ _ (small it.hour 24 it.hour_in) (small it.minute 60 it.minute_in)) (small it.second 60 it.second_in))

free_date : (it : Date) → unsigned_abs it.year < 10000 → IsFree 32 (date_text it)
free_date it year =
    free_append 32 (two (unsigned_abs it.year / 100) ++ two (unsigned_abs it.year % 100)) (47 ∷ (two it.month ++ 47 ∷ two it.day))
    (free_append 32 (two (unsigned_abs it.year / 100)) (two (unsigned_abs it.year % 100)) (free_two 32 (unsigned_abs it.year / 100) (omega arith)) (free_two 32 (unsigned_abs it.year % 100) (omega arith)))
    ((λ e. absurd (omega arith)), free_append 32 (two it.month) (47 ∷ two it.day) (free_two 32 it.month (omega arith)) ((λ e. absurd (omega arith)), free_two 32 it.day (omega arith)))

abbrev behind_date : List ℕ × List ℕ → Option ℕ
behind_date parts = day_in parts.0 >>= λ day. second_in parts.1 >>= λ second. Some (moment_at day second)

civil_seconds-parts : (it : DateTime) → civil_seconds it ≡ epoch_day it.date *ℤ pos 86400 +ℤ pos (time_seconds it.time)
unfolding civil_seconds
civil_seconds-parts it = refl

read_back : (it : DateTime) → it.date.year ≡ pos (unsigned_abs it.date.year) → moment_in (moment_text it) ≡ Some (units_at (civil_seconds it) 0)
read_back it is =
    let year : unsigned_abs it.date.year < 10000 = omega (arith, signed_arith, it.date.year_in) in
    ap (λ o. o >>= behind_date) (cut_found 32 (date_text it.date) (time_text it.time) (free_date it.date year))
    ∙ ap₂ (λ o p. o >>= λ day. p >>= λ second. Some (moment_at day second)) (date_back it.date is) (time_back it.time)
    ∙ ap (λ z. Some (units_at z 0)) (sym (civil_seconds-parts it))

-- ---- from 1601 on

year_zero : day_count (pos 0) 1 1 ≡ 3652425
year_zero = day_count-early (pos 0) 9999 1 1 refl (omega arith) (omega arith) (omega arith)

not_below : (y : ℤ) → pos 0 ≤ℤ y → y ≡ pos (unsigned_abs y)
not_below (pos n) h = refl
not_below (negsuc n) h = absurd (omega (arith, signed_arith))

abbrev seconds_by : Bool → ℕ → ℤ
seconds_by low units = if low then negsuc ((unix_epoch - 1 - units) / 10000000) else pos ((units - unix_epoch) / 10000000)

from_1601 : (low : Bool) (units : ℕ) → neg_ℤ (pos 11644473600) ≤ℤ seconds_by low units
from_1601 true units =
    let most : (unix_epoch - 1 - units) / 10000000 ≤ 11644473599 = omega arith in
    omega (arith, signed_arith)
from_1601 false units = omega (arith, signed_arith)

-- a date from 1601 on has a year that isn't below 0
year_from : (it : DateTime) (units : ℕ) → civil_seconds it ≡ unix_seconds units → it.date.year ≡ pos (unsigned_abs it.date.year)
year_from it units e =
    let low : neg_ℤ (pos 11644473600) ≤ℤ civil_seconds it = subst (λ z. neg_ℤ (pos 11644473600) ≤ℤ z) (sym e) (from_1601 (nat_lt units unix_epoch) units) in
    by_lt_z it.date.year (pos 0)
    (λ before. absurd (omega (arith, signed_arith, low, civil_seconds-parts it, it.time.hour_in, it.time.minute_in, it.time.second_in, days_from_civil-day_count it.date.year it.date.month it.date.day, day_count-lt_year it.date.year it.date.month it.date.day (pos 0) 1 1 (civil it.date) (omega arith) before, year_zero)))
    (λ from. not_below it.date.year from)

-- ---- units

told : (n m : ℕ) → nat_lt n m ≡ true → n < m
told n m h = grind (arith, nat_tests, h)

not_told : (n m : ℕ) → nat_lt n m ≡ false → m ≤ n
not_told n m h = grind (arith, nat_tests, h)

whole : (units : ℕ) → units % 10000000 == 0 ≡ true → units % 10000000 ≡ 0
whole units h = grind (arith, nat_tests, h)

back_by : (low : Bool) (units : ℕ) → nat_lt units unix_epoch ≡ low → units % 10000000 ≡ 0 → units < 2650467744000000000 → units_at (seconds_by low units) 0 ≡ units
back_by true units e w below = let before = told units unix_epoch e in omega arith
back_by false units e w below = let from = not_told units unix_epoch e in omega arith

back : (units : ℕ) → is_second units ≡ true → units_at (unix_seconds units) 0 ≡ units
back units h = back_by (nat_lt units unix_epoch) units refl (whole units (and_parts _ _ h).0) (told units 2650467744000000000 (and_parts _ _ h).1)

pub moment_back : (units : ℕ) (text : List ℕ) → is_second units ≡ true → IsMoment (unix_seconds units) text → moment_in text ≡ Some units
moment_back units text h is =
    ap moment_in is.2 ∙ read_back is.0 (year_from is.0 units is.1) ∙ ap (λ z. Some (units_at z 0)) is.1 ∙ ap Some (back units h)

end_by : (low : Bool) (units : ℕ) → units < 2650467744000000000 → years_end ≤ℤ seconds_by low units → ⊥
end_by true units below past = omega (arith, signed_arith)
end_by false units below past = let most : (units - unix_epoch) / 10000000 < 253402300800 = omega arith in omega (arith, signed_arith)

-- up to the year 9999 there is a text
pub no_end : (units : ℕ) → is_second units ≡ true → years_end ≤ℤ unix_seconds units → ⊥
no_end units h past = end_by (nat_lt units unix_epoch) units (told units 2650467744000000000 (and_parts _ _ h).1) past

-- ---- printed characters

-- each is a space, or one behind it
abbrev pub IsPrinted : List ℕ → Type 0
IsPrinted [] = Unit {0}
IsPrinted (b ∷ bs) = (32 ≤ b) × IsPrinted bs

printed_append : (xs ys : List ℕ) → IsPrinted xs → IsPrinted ys → IsPrinted (xs ++ ys)
printed_append [] ys h k = k
printed_append (x ∷ xs) ys h k = (h.0, printed_append xs ys h.1 k)

printed_two : (n : ℕ) → IsPrinted (two n)
printed_two n = (omega arith, (omega arith, tt))

printed_date : (it : Date) → IsPrinted (date_text it)
printed_date it =
    printed_append (two (unsigned_abs it.year / 100) ++ two (unsigned_abs it.year % 100)) (47 ∷ (two it.month ++ 47 ∷ two it.day))
    (printed_append (two (unsigned_abs it.year / 100)) (two (unsigned_abs it.year % 100)) (printed_two (unsigned_abs it.year / 100)) (printed_two (unsigned_abs it.year % 100)))
    (omega arith, printed_append (two it.month) (47 ∷ two it.day) (printed_two it.month) (omega arith, printed_two it.day))

printed_time : (it : Time) → IsPrinted (time_text it)
printed_time it =
    printed_append (two it.hour) (58 ∷ (two it.minute ++ 58 ∷ two it.second)) (printed_two it.hour)
    (omega arith, printed_append (two it.minute) (58 ∷ two it.second) (printed_two it.minute) (omega arith, printed_two it.second))

pub printed_moment : (it : DateTime) → IsPrinted (moment_text it)
printed_moment it = printed_append (date_text it.date) (32 ∷ time_text it.time) (printed_date it.date) (omega arith, printed_time it.time)
