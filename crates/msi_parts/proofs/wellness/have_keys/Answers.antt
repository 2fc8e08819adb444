use Rattle.std.proofs.Common.{◌≡◌, ◌∙◌, Bool, false, true, map, ap, sym, refl, arith, get_or}
use Rattle.std.specs.Prelude.{not}
use Rattle.std.proofs.Math.Bool.{beq}
use Rattle.std.proofs.lemmas.List.{length-map, take_more_same}
use Rattle.msi_columns.specs.Held.{column_of, columns_of}
use Rattle.msi_parts.proofs.Columns.{said_at}
use Rattle.msi_parts.proofs.wellness.have_keys.Goals as goal

other : (a b : Bool) → a ≡ b → not (beq a b) ≡ true → false ≡ true
other false false e h = h
other false true e h = e
other true false e h = sym e
other true true e h = h

alike : (a b : Bool) → not (beq a b) ≡ false → a ≡ b
alike false false h = refl
alike false true h = absurd (cc)
alike true false h = absurd (cc)
alike true true h = refl

pub returns-then-is_primary_key-keys : goal.returns-then-is_primary_key-keys
returns-then-is_primary_key-keys c = (
  λ never. absurd (cc),
  λ e.
      let same = c.is_primary_key.ensures ∙ said_at (λ k. k.key) c.args.columns.now c.loop-place.place c.index-columns-place.result false (omega (arith, c.loop-place-test.true, c.if-columns-keys.false)) c.index-columns-place.is
      ∙ ap (λ ks. get_or ks c.loop-place.place false) e in
      other c.is_primary_key.result (get_or c.args.keys.now c.loop-place.place false) same c.if-is_primary_key-keys.true,
)

pub loop-place-preserved : goal.loop-place-preserved
loop-place-preserved c =
    let columns = columns_of c.args.columns.now in
    take_more_same (map (λ k. k.key) columns) c.args.keys.now c.loop-place.place false
    (omega (arith, c.loop-place-test.true, c.if-columns-keys.false, length-map columns (λ k. k.key), length-map c.args.columns.now column_of))
    c.loop-place-test.true c.loop-place.invariant
    (sym (said_at (λ k. k.key) c.args.columns.now c.loop-place.place c.index-columns-place.result false (omega (arith, c.loop-place-test.true, c.if-columns-keys.false)) c.index-columns-place.is)
    ∙ sym c.is_primary_key.ensures ∙ alike c.is_primary_key.result (get_or c.args.keys.now c.loop-place.place false) c.if-is_primary_key-keys.false)
