-- The first characters of an ASCII text, and the fill around them.
use Rattle.std.specs.Prelude.{ℕ, ◌-◌, ◌/◌, ◌^◌, ◌<◌, Bool, not, ◌&&◌, ◌==◌, List, ◌++◌, length, take, Option, Some, None}
use Rattle.std.specs.Fmt.{formatter_spec, fill_text, padding_before}
use Rattle.std.specs.declared.fmt.Formatter.{Formatter}
use Rattle.std.specs.declared.fmt.Alignment.{Alignment}
use Rattle.std.specs.declared.fmt.Alignment.TheVariants.{Right, Center}

-- so many of a text's characters, or all
abbrev pub first_of : Option ℕ → List ℕ → List ℕ
first_of None text = text
first_of (Some n) text = take n text

-- how many may still follow
abbrev pub left_after : Option ℕ → List ℕ → Option ℕ
left_after None text = None
left_after (Some n) text = Some (n - length text)

-- the formatter's options have one of the three alignments or none, as those of each hole have
abbrev pub IsAligned : {W : Type 0} → Formatter W → Type 0
IsAligned f = (formatter_spec f).align < 4

-- how much of the fill stands before a text; without an alignment it stands behind
abbrev pub before_by : Option Alignment → ℕ → ℕ
before_by (Some Right) padding = padding
before_by (Some Center) padding = padding / 2
before_by _ padding = 0

-- a text with so much fill, where the formatter asks for it
abbrev pub filled : {W : Type 0} → Formatter W → ℕ → List ℕ → List ℕ
filled f padding text = fill_text (formatter_spec f) (padding_before (formatter_spec f) padding 1) ++ (text ++ fill_text (formatter_spec f) (padding - padding_before (formatter_spec f) padding 1))

-- a width or a precision is asked for
abbrev pub is_laid_out : {W : Type 0} → Formatter W → Bool
is_laid_out f = not ((formatter_spec f).width == 0 && (formatter_spec f).precision == 2 ^ 64 - 1)
