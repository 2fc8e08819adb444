-- The objects of the root as they are listed, and where they stand.
use Rattle.std.proofs.Common.{◌≡◌, ◌∙◌, Bool, List, [], map, sym, ap, subst, arith}
use Rattle.std.specs.Prelude.{◌↔◌, All, Err, IfErr, IfOk, IsTrue, MatchResult, Ok, Result}
use Rattle.std.specs.List.{list_all}
use Rattle.cfb_medium.specs.Calls.{IsFaultOrInvalidInputIf}
use Rattle.cfb_medium.specs.declared.error.Error.{Error}
use Rattle.cfb_medium.specs.declared.error.Error.TheVariants.{Memory}
use Rattle.msi_parts.proofs.Judging.{all_of, each_of}
use Rattle.std.proofs.lemmas.List.Elements.{All-cons, All-head, All-tail}
use Rattle.cfb_entries.specs.Listed.{Listed, listed}
use Rattle.cfb_spec.specs.TreeRules.{Answer, ShownObject, a_storage, a_stream, children_shown, entries}
use Rattle.cfb_tree.specs.Names.{CaseTable}
use Rattle.cfb_tree.specs.Tree.{Content, nothing, storage, stream}
use Rattle.msi_spec.specs.Package.{objects}
use Rattle.msi_parts.specs.Judged.{is_in_place}
use Rattle.msi_store.specs.Placing.{is_placed}
use Rattle.msi_tables.specs.Table.{Heading}

module _ (letters : CaseTable) (headings : List Heading) where
  -- an object that is listed stands where it may
  abbrev pub is_well : Listed → Bool
  is_well l = is_placed letters headings l.name l.is_storage

  pub objects_placed : (c : Content) → All (λ l. IsTrue (is_well l)) (map listed (children_shown [] c)) → All (λ o. IsTrue (is_in_place letters headings o)) (objects c)
  objects_placed nothing h = λ k d l. absurd (omega (arith, l))
  objects_placed (stream name bits bytes later) h =
      All-cons (λ o. IsTrue (is_in_place letters headings o)) (a_stream name bits bytes) (objects later) (All-head (λ l. IsTrue (is_well l)) _ (map listed (children_shown [] later)) h)
      (objects_placed later (All-tail (λ l. IsTrue (is_well l)) _ (map listed (children_shown [] later)) h))
  objects_placed (storage name facts inside later) h =
      All-cons (λ o. IsTrue (is_in_place letters headings o)) (a_storage name facts inside) (objects later) (All-head (λ l. IsTrue (is_well l)) _ (map listed (children_shown [] later)) h)
      (objects_placed later (All-tail (λ l. IsTrue (is_well l)) _ (map listed (children_shown [] later)) h))

  pub listed_placed : (c : Content) → All (λ o. IsTrue (is_in_place letters headings o)) (objects c) → All (λ l. IsTrue (is_well l)) (map listed (children_shown [] c))
  listed_placed nothing h = λ k d l. absurd (omega (arith, l))
  listed_placed (stream name bits bytes later) h =
      All-cons (λ l. IsTrue (is_well l)) _ (map listed (children_shown [] later)) (All-head (λ o. IsTrue (is_in_place letters headings o)) (a_stream name bits bytes) (objects later) h)
      (listed_placed later (All-tail (λ o. IsTrue (is_in_place letters headings o)) (a_stream name bits bytes) (objects later) h))
  listed_placed (storage name facts inside later) h =
      All-cons (λ l. IsTrue (is_well l)) _ (map listed (children_shown [] later)) (All-head (λ o. IsTrue (is_in_place letters headings o)) (a_storage name facts inside) (objects later) h)
      (listed_placed later (All-tail (λ o. IsTrue (is_in_place letters headings o)) (a_storage name facts inside) (objects later) h))

  -- what listing tells of all of them
  told_all : (c : Content) (b : Bool) → b ≡ list_all is_well (map listed (children_shown [] c)) → IsTrue b ↔ All (λ o. IsTrue (is_in_place letters headings o)) (objects c)
  told_all c b e = (
    λ yes. objects_placed c (each_of is_well (map listed (children_shown [] c)) (sym e ∙ yes)),
    λ all. e ∙ all_of is_well (map listed (children_shown [] c)) (listed_placed c all),
  )

  pub told_placed : (c : Content) (r : Result Bool Error) → IfOk r (λ are. are ≡ list_all is_well (map listed (children_shown [] c))) → IfErr r (λ e. e ≡ Memory)
      → MatchResult r (λ are. IsTrue are ↔ All (λ o. IsTrue (is_in_place letters headings o)) (objects c)) (IsFaultOrInvalidInputIf ⊥)
  told_placed c (Ok b) ok err = told_all c b ok
  told_placed c (Err e) ok err = subst (IsFaultOrInvalidInputIf ⊥) (sym err) tt

-- the answer of a listing has these
abbrev of_answer : List ShownObject → Answer → List ShownObject
of_answer d (entries all) = all
of_answer d _ = d

pub listed_same : (c : Content) (all : List ShownObject) → entries (children_shown [] c) ≡ entries all → all ≡ children_shown [] c
listed_same c all e = sym (ap (of_answer []) e)
