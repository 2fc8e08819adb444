-- Which properties are read back as they were.
use Rattle.std.specs.Prelude.{ℕ, ◌%◌, ◌==◌, Bool, false, ◌&&◌, nat_lt, ℤ, pos, negsuc}
use Rattle.std.specs.Int.{w16, cast_unsigned}
use Rattle.std.specs.Option.{is_some}
use Rattle.idt_rows.specs.Rows.{is_kept, is_whole}
use Rattle.msi_props.specs.Props.{Property}
use Rattle.msi_props.specs.Props as property
use Rattle.msi_texts.specs.Page.{page_id}
use Rattle.idt_summaries.specs.Reading.{is_count, is_moment, is_text}

-- a number of 16 bits
abbrev pub is_short : ℤ → Bool
is_short (pos n) = nat_lt n 32768
is_short (negsuc n) = nat_lt n 32768

-- the number of a code page that is known
abbrev pub is_page : ℤ → Bool
is_page z = is_short z && is_some (page_id (cast_unsigned w16 z))

-- a moment of a whole second, in units of 100 ns, from 1601 to 9999
abbrev pub is_second : ℕ → Bool
is_second units = units % 10000000 == 0 && nat_lt units 2650467744000000000

-- a property of its number's kind: a code page that is known, a text that isn't empty and has none of the six characters that stand for
-- others, a moment of a whole second up to the year 9999, or a number of 32 bits
abbrev pub comes_back : ℕ × Property → Bool
comes_back (n, property.i2 z) = n == 1 && is_page z
comes_back (n, property.text t) = is_text n && is_kept t
comes_back (n, property.time units) = is_moment n && is_second units
comes_back (n, property.i4 z) = is_count n && is_whole z
comes_back (n, v) = false
