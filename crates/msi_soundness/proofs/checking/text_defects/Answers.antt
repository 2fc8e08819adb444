use Rattle.std.proofs.Common.{◌≡◌, ◌∙◌, ◌∷◌, [], ap, refl, subst, sym}
use Rattle.std.specs.Prelude.{Contains}
use Rattle.cfb_tree.specs.Names.{CaseTable}
use Rattle.cfb_tree.specs.Tree.{Tree}
use Rattle.msi_soundness.proofs.Noted.{if_noted, listed_next, none_noted, noted_last, one_test, same_test, told_next}
use Rattle.msi_soundness.specs.Defects.{noted, rules_of_texts, ListsDefects, MeetsSoundnessRule}
use Rattle.msi_soundness.specs.declared.defect.Defect.TheVariants.{Container, PoolTexts, SummarySections, SummaryTexts}
use Rattle.msi_soundness.proofs.checking.text_defects.Goals as goal

pub returns-clause-answer : goal.returns-clause-answer
returns-clause-answer c =
    let sound = c.args.container_is_sound in
    let it = c.args.parts.now in
    let one = c.in_ok-found.found.items in
    let two = c.in_ok-found-2.found.items in
    let three = c.in_ok-found-3.found.items in
    let first : one ≡ noted [] sound Container = c.in_ok-found.ensures.listed ∙ ap (λ ds. noted ds sound Container) c.new.ensures.items in
    if_noted (λ all. (letters : CaseTable) (tree : Tree) → ListsDefects (MeetsSoundnessRule letters tree sound it) rules_of_texts all) c.noted-4.result three _ SummarySections c.noted-4.ensures.listed (λ all is letters tree.
    let K = MeetsSoundnessRule letters tree sound it in
    told_next K (SummaryTexts ∷ PoolTexts ∷ Container ∷ []) three all _ SummarySections is (one_test c.num_sections.result it.summary.props.sections c.num_sections.ensures)
    (told_next K (PoolTexts ∷ Container ∷ []) two three c.texts_give_back.result SummaryTexts c.in_ok-found-3.ensures.listed (same_test c.texts_give_back.result it.summary.whole c.texts_give_back.ensures)
    (told_next K (Container ∷ []) one two it.gives_back PoolTexts c.in_ok-found-2.ensures.listed (same_test it.gives_back it.gives_back refl)
    (told_next K [] [] one sound Container first (same_test sound sound refl) (none_noted K)))))

pub returns-clause-unsound : goal.returns-clause-unsound
returns-clause-unsound c broken =
    let sound = c.args.container_is_sound in
    let one = c.in_ok-found.found.items in
    let two = c.in_ok-found-2.found.items in
    let three = c.in_ok-found-3.found.items in
    let first : one ≡ noted [] sound Container = c.in_ok-found.ensures.listed ∙ ap (λ ds. noted ds sound Container) c.new.ensures.items in
    let here : Contains one Container = subst (λ ds. Contains ds Container) (sym first) (noted_last [] sound Container broken) in
    if_noted (λ all. Contains all Container) c.noted-4.result three _ SummarySections c.noted-4.ensures.listed (λ all is.
    listed_next three all _ SummarySections Container is
    (listed_next two three c.texts_give_back.result SummaryTexts Container c.in_ok-found-3.ensures.listed
    (listed_next one two c.args.parts.now.gives_back PoolTexts Container c.in_ok-found-2.ensures.listed here)))
