use Rattle.std.proofs.Common.{◌∙◌, ℕ, length, map, get_or, List, [], Bor, refl, ap, arith}
use Rattle.idt_tables.specs.HeadingsOf.{heading_of}
use Rattle.idt_imports.specs.Columns.{is_among}
use Rattle.idt_imports.proofs.ColumnsRead.{all_there, one_more}
use Rattle.idt_imports.proofs.headings.marked_columns.Goals as goal

abbrev blank : Bor (List ℕ)
blank = record { ref_ptr = (0, 0); now = [] }

abbrev text_at : ℕ → List (Bor (List ℕ)) → List ℕ
text_at at names = (get_or names at blank).now

abbrev texts_of : List (Bor (List ℕ)) → List (List ℕ)
texts_of names = map (λ n. n.now) names

pub loop-at-preserved : goal.loop-at-preserved
loop-at-preserved c =
    let at = c.loop-at.at in
    let h = c.args.heading.now in
    one_more (λ n. n.now) h.names.items h.types.items (texts_of h.keys.items) at c.loop-at.columns.items c.push.new.self.items _ blank
    (omega (arith, c.loop-at-test.true, ap length c.deref-name-items.ensures.value)) c.requires c.in_ok-push.ensures.items
    (c.in_ok-own.ensures ∙ ap (text_at at) c.deref-name-items.ensures.value)
    c.index.ensures
    (c.is_among.ensures ∙ ap (λ ks. is_among (texts_of ks) (text_at at c.deref-name-items.result.now)) c.deref.ensures.value
    ∙ ap (λ ns. is_among (texts_of h.keys.items) (text_at at ns)) c.deref-name-items.ensures.value)
    c.loop-at.invariant

pub returns : goal.returns
returns c =
    let h = c.args.heading.now in
    all_there (λ n. n.now) h.names.items h.types.items (texts_of h.keys.items) c.loop-at.at c.loop-at.columns.items (heading_of h)
    (omega (arith, c.loop-at-test.false, ap length c.deref-name-items.ensures.value)) c.requires refl refl refl c.loop-at.invariant
