use Rattle.std.proofs.Common.{◌≡◌, ◌∙◌, ap, sym, refl, true, false, chars, Bool}
use Rattle.std.specs.Prelude.{◌||◌}
use Rattle.cfb_tree.specs.CaseTableViews.{case_table_of}
use Rattle.cfb_tree.specs.Objects.{is_same_name}
use Rattle.msi_spec.specs.Package.{summary_name}
use Rattle.msi_spec.specs.Streams.{document_summary_name, signature_ex_name, signature_name}
use Rattle.msi_streams.proofs.Naming.{document_chars, signature_chars, signature_ex_chars, summary_chars}
use Rattle.msi_streams.proofs.names.is_special.Goals as goal

pub returns-then-is_same_name : goal.returns-then-is_same_name
returns-then-is_same_name c =
    let same = is_same_name (case_table_of c.args.letters.now) (chars c.args.name.now) in
    let one : same document_summary_name ≡ true = ap same (sym document_chars) ∙ sym c.is_same_name.ensures ∙ c.if-is_same_name.true in
    ap (λ b. b || (same summary_name || (same signature_name || (same signature_ex_name || false)))) (sym one)

pub returns-then-is_same_name-2 : goal.returns-then-is_same_name-2
returns-then-is_same_name-2 c =
    let same = is_same_name (case_table_of c.args.letters.now) (chars c.args.name.now) in
    let one : same document_summary_name ≡ false = ap same (sym document_chars) ∙ sym c.is_same_name.ensures ∙ c.if-is_same_name.false in
    let two : same summary_name ≡ true = ap same (sym summary_chars) ∙ sym c.is_same_name-2.ensures ∙ c.if-is_same_name-2.true in
    ap (λ b. false || (b || (same signature_name || (same signature_ex_name || false)))) (sym two)
    ∙ ap (λ b. b || (same summary_name || (same signature_name || (same signature_ex_name || false)))) (sym one)

pub returns-then-is_same_name-3 : goal.returns-then-is_same_name-3
returns-then-is_same_name-3 c =
    let same = is_same_name (case_table_of c.args.letters.now) (chars c.args.name.now) in
    let one : same document_summary_name ≡ false = ap same (sym document_chars) ∙ sym c.is_same_name.ensures ∙ c.if-is_same_name.false in
    let two : same summary_name ≡ false = ap same (sym summary_chars) ∙ sym c.is_same_name-2.ensures ∙ c.if-is_same_name-2.false in
    let three : same signature_name ≡ true = ap same (sym signature_chars) ∙ sym c.is_same_name-3.ensures ∙ c.if-is_same_name-3.true in
    ap (λ b. false || (false || (b || (same signature_ex_name || false)))) (sym three)
    ∙ ap (λ b. false || (b || (same signature_name || (same signature_ex_name || false)))) (sym two)
    ∙ ap (λ b. b || (same summary_name || (same signature_name || (same signature_ex_name || false)))) (sym one)

pub returns : goal.returns
returns c =
    let same = is_same_name (case_table_of c.args.letters.now) (chars c.args.name.now) in
    let last : (b : Bool) → b ≡ (b || false) = λ b. elim b as (λ b. b ≡ (b || false)) [ true ↦ refl | false ↦ refl ] in
    let one : same document_summary_name ≡ false = ap same (sym document_chars) ∙ sym c.is_same_name.ensures ∙ c.if-is_same_name.false in
    let two : same summary_name ≡ false = ap same (sym summary_chars) ∙ sym c.is_same_name-2.ensures ∙ c.if-is_same_name-2.false in
    let three : same signature_name ≡ false = ap same (sym signature_chars) ∙ sym c.is_same_name-3.ensures ∙ c.if-is_same_name-3.false in
    c.is_same_name-4.ensures ∙ ap same signature_ex_chars ∙ last (same signature_ex_name)
    ∙ ap (λ b. false || (false || (b || (same signature_ex_name || false)))) (sym three)
    ∙ ap (λ b. false || (b || (same signature_name || (same signature_ex_name || false)))) (sym two)
    ∙ ap (λ b. b || (same summary_name || (same signature_name || (same signature_ex_name || false)))) (sym one)
