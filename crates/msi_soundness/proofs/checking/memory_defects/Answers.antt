use Rattle.std.proofs.Common.{◌≡◌, ◌∙◌, ◌∷◌, ap, map, subst}
use Rattle.std.specs.Prelude.{◌↔◌, Contains, IfSome, IsTrue}
use Rattle.std.specs.Rc.{rc_value}
use Rattle.cfb_tree.specs.Names.{CaseTable}
use Rattle.cfb_tree.specs.Tree.{Tree}
use Rattle.msi_parts.specs.Held.{headings_in}
use Rattle.msi_parts.specs.Judged.{are_free_names, heading_named, IsUsual}
use Rattle.msi_tables.specs.Held.{heading_of}
use Rattle.msi_tables.specs.Schema.{validation_name}
use Rattle.msi_soundness.proofs.Noted.{if_noted, listed_next, same_test, told_next}
use Rattle.msi_soundness.specs.Defects.{rules_of_memory, rules_of_texts, ListsDefects, MeetsSoundnessRule}
use Rattle.msi_soundness.specs.declared.defect.Defect.TheVariants.{Container, FreePlaces, TableNames, Validation}
use Rattle.msi_soundness.proofs.checking.memory_defects.Goals as goal

pub returns-clause-answer : goal.returns-clause-answer
returns-clause-answer c =
    let sound = c.args.container_is_sound in
    let it = c.args.parts.now in
    let one = c.in_ok-found.found.items in
    let two = c.in_ok-found-2.found.items in
    let three = c.in_ok-found-3.found.items in
    let names : c.are_free_names.result ≡ are_free_names (headings_in it) = c.are_free_names.ensures ∙ ap (λ ts. are_free_names (map (λ t. heading_of (rc_value t)) ts)) c.deref.ensures.value in
    let usual = subst (λ ts. IsTrue c.is_validation_usual.result ↔ IfSome (heading_named (map (λ t. heading_of (rc_value t)) ts) validation_name) IsUsual) c.deref-2.ensures.value c.is_validation_usual.ensures in
    if_noted (λ all. (letters : CaseTable) (tree : Tree) → ListsDefects (MeetsSoundnessRule letters tree sound it) rules_of_memory all) c.noted-3.result three c.is_validation_usual.result Validation c.noted-3.ensures.listed (λ all is letters tree.
    let K = MeetsSoundnessRule letters tree sound it in
    told_next K (TableNames ∷ FreePlaces ∷ rules_of_texts) three all c.is_validation_usual.result Validation is usual
    (told_next K (FreePlaces ∷ rules_of_texts) two three c.are_free_names.result TableNames c.in_ok-found-3.ensures.listed (same_test c.are_free_names.result (are_free_names (headings_in it)) names)
    (told_next K rules_of_texts one two c.are_free_empty.result FreePlaces c.in_ok-found-2.ensures.listed c.are_free_empty.ensures
    (c.in_ok-found.ensures.answer letters tree))))

pub returns-clause-unsound : goal.returns-clause-unsound
returns-clause-unsound c broken =
    let one = c.in_ok-found.found.items in
    let two = c.in_ok-found-2.found.items in
    let three = c.in_ok-found-3.found.items in
    if_noted (λ all. Contains all Container) c.noted-3.result three c.is_validation_usual.result Validation c.noted-3.ensures.listed (λ all is.
    listed_next three all c.is_validation_usual.result Validation Container is
    (listed_next two three c.are_free_names.result TableNames Container c.in_ok-found-3.ensures.listed
    (listed_next one two c.are_free_empty.result FreePlaces Container c.in_ok-found-2.ensures.listed (c.in_ok-found.ensures.unsound broken))))
