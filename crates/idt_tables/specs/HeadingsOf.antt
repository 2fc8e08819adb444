-- What a heading in memory says.
use Rattle.std.specs.Prelude.{map}
use Rattle.idt_tables.specs.Headings.{Heading}
use Rattle.idt_tables.specs.declared.headings.Heading.{Heading as Held}

abbrev pub heading_of : Held → Heading
heading_of h = record { table = h.table.now; names = map (λ p. p.now) h.names.items; types = h.types.items; keys = map (λ p. p.now) h.keys.items }
