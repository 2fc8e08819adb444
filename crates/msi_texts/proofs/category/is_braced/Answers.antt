use Rattle.std.proofs.Common.{◌≡◌, ◌∷◌, [], ◌-◌, length, take, drop, ◌∙◌, ap, ap₂, arith}
use Rattle.std.specs.Prelude.{bytes_eq, ◌&&◌}
use Rattle.std.proofs.lemmas.List.{take_all, length-drop}
use Rattle.msi_texts.proofs.category.is_braced.Goals as goal

pub returns-then-eq : goal.returns-then-eq
returns-then-eq c =
    let bytes = c.args.bytes.now in
    let back : take (length bytes - 37) (drop 37 bytes) ≡ drop 37 bytes = take_all (length bytes - 37) (drop 37 bytes) (omega (arith, length-drop 37 bytes)) in
    c.eq-then-eq.ensures ∙ ap₂ bytes_eq back c.as_slice-then-eq.ensures
    ∙ ap (λ b. b && bytes_eq (drop 37 bytes) (125 ∷ [])) (c.if-eq.ensures ∙ ap (bytes_eq (take 1 bytes)) c.as_slice.ensures)
