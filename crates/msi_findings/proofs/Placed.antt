-- Objects under the root that are out of place, as they are listed.
use Rattle.std.proofs.Common.{◌≡◌, ◌∙◌, Bool, true, false, ℕ, List, [], ◌∷◌, ◌++◌, map, refl, sym, ap, ap₂, subst}
use Rattle.std.proofs.lemmas.List.{append-nil, append_assoc}
use Rattle.std.specs.Prelude.{Err, IfErr, IfOk, MatchResult, Ok, Result, String, Vec, cond, filter, not}
use Rattle.std.specs.BTreeSet.{contains_by}
use Rattle.std.specs.Cmp.Lexicographic.{slice_cmp}
use Rattle.std.specs.List.{list_any}
use Rattle.std.specs.Ordering.{is_eq, nat_cmp}
use Rattle.std.specs.declared.alloc.Global.{Global}
use Rattle.cfb_entries.specs.Listed.{Listed, listed}
use Rattle.cfb_spec.specs.TreeRules.{Object, a_storage, a_stream, children_shown, name_of, shown}
use Rattle.cfb_medium.specs.Calls.{IsFaultOrInvalidInputIf}
use Rattle.cfb_medium.specs.declared.error.Error.{Error}
use Rattle.cfb_medium.specs.declared.error.Error.TheVariants.{Memory}
use Rattle.cfb_tree.specs.Names.{CaseTable, name_key}
use Rattle.cfb_tree.specs.Tree.{Content, nothing, storage, stream}
use Rattle.msi_findings.specs.Misplaced.{misplaced, names_of}
use Rattle.msi_findings.specs.Placing.{misplaced_in, KeysMatchHeadings}
use Rattle.msi_findings.specs.declared.placing.TableNames.{TableNames}
use Rattle.msi_spec.specs.Package.{objects, stream_name}
use Rattle.msi_parts.specs.Judged.{is_in_place}
use Rattle.msi_store.proofs.Keys.{one_of}
use Rattle.msi_store.specs.Placing.{is_listed_well, is_one_of}
use Rattle.msi_tables.specs.Table.{Heading}

-- the key of a name stands among those of tables where the name counts as one of theirs
pub is_found : (letters : CaseTable) (headings : List Heading) (it : TableNames) → KeysMatchHeadings letters headings it → (key name : List ℕ) → key ≡ name_key letters name
    → contains_by (λ x. slice_cmp nat_cmp key x.items) it.keys ≡ is_one_of letters (map (λ h. stream_name h.name) headings) name
is_found letters headings it has key name same =
    let names = map (λ h. stream_name h.name) headings in
    has.keys key ∙ ap (λ k. list_any (λ n. is_eq (slice_cmp nat_cmp k (name_key letters n))) names) same ∙ one_of letters names name

-- one that is picked or not, as it is listed
picked : (b : Bool) (l : Listed) (o : Object) (ls : List Listed) (os : List Object) → l.name ≡ name_of o → map (λ (x : Listed). x.name) ls ≡ map name_of os
    → map (λ (x : Listed). x.name) (cond b (l ∷ ls) ls) ≡ map name_of (cond b (o ∷ os) os)
picked true l o ls os same rest = ap₂ (λ n ns. n ∷ ns) same rest
picked false l o ls os same rest = rest

module _ (letters : CaseTable) (headings : List Heading) where
  one_by_one : (l : Listed) (ls : List Listed) → misplaced_in letters headings (l ∷ ls) ≡ misplaced_in letters headings (l ∷ []) ++ misplaced_in letters headings ls
  one_by_one l ls = by_test (not (is_listed_well letters headings l))
    where
      by_test : (b : Bool) → map (λ (x : Listed). x.name) (cond b (l ∷ filter (λ x. not (is_listed_well letters headings x)) ls) (filter (λ x. not (is_listed_well letters headings x)) ls))
          ≡ map (λ (x : Listed). x.name) (cond b (l ∷ []) []) ++ misplaced_in letters headings ls
      by_test true = refl
      by_test false = refl

  -- one that was listed is in place, or out of it
  pub placed_one : (old : List (List ℕ)) (l : Listed) → is_listed_well letters headings l ≡ true → old ≡ old ++ misplaced_in letters headings (l ∷ [])
  placed_one old l is = sym (append-nil old) ∙ ap (λ b. old ++ map (λ (x : Listed). x.name) (cond (not b) (l ∷ []) [])) (sym is)

  pub misplaced_one : (old : List (List ℕ)) (l : Listed) (name : List ℕ) → is_listed_well letters headings l ≡ false → name ≡ l.name → old ++ name ∷ [] ≡ old ++ misplaced_in letters headings (l ∷ [])
  misplaced_one old l name is same = ap (λ n. old ++ n ∷ []) same ∙ ap (λ b. old ++ map (λ (x : Listed). x.name) (cond (not b) (l ∷ []) [])) (sym is)

  -- those that were found, and those to come
  pub misplaced_more : (old new all : List (List ℕ)) (before after : List Listed) (l : Listed) → before ≡ l ∷ after → new ≡ old ++ misplaced_in letters headings (l ∷ [])
      → old ++ misplaced_in letters headings before ≡ all → new ++ misplaced_in letters headings after ≡ all
  misplaced_more old new all before after l more one so_far =
      ap (λ x. x ++ misplaced_in letters headings after) one
      ∙ append_assoc old (misplaced_in letters headings (l ∷ [])) (misplaced_in letters headings after)
      ∙ ap (λ x. old ++ x) (sym (one_by_one l after) ∙ ap (misplaced_in letters headings) (sym more))
      ∙ so_far

  pub misplaced_all : (old all : List (List ℕ)) (before : List Listed) → before ≡ [] → old ++ misplaced_in letters headings before ≡ all → old ≡ all
  misplaced_all old all before none so_far = sym (append-nil old) ∙ ap (λ ls. old ++ misplaced_in letters headings ls) (sym none) ∙ so_far

  -- the objects of the root are those that are listed
  pub listed_objects : (c : Content) → misplaced_in letters headings (map listed (children_shown [] c)) ≡ misplaced letters headings (objects c)
  listed_objects nothing = refl
  listed_objects (stream name bits bytes later) =
      let o = a_stream name bits bytes in
      picked (not (is_in_place letters headings o)) (listed (shown (name ∷ []) o)) o _ _ refl (listed_objects later)
  listed_objects (storage name facts inside later) =
      let o = a_storage name facts inside in
      picked (not (is_in_place letters headings o)) (listed (shown (name ∷ []) o)) o _ _ refl (listed_objects later)

  pub told_misplaced : (c : Content) (r : Result (Vec (String Global) Global) Error) → IfOk r (λ found. names_of found.items ≡ misplaced_in letters headings (map listed (children_shown [] c)))
      → IfErr r (λ e. e ≡ Memory) → MatchResult r (λ found. names_of found.items ≡ misplaced letters headings (objects c)) (IsFaultOrInvalidInputIf ⊥)
  told_misplaced c (Ok found) ok err = ok ∙ listed_objects c
  told_misplaced c (Err e) ok err = subst (IsFaultOrInvalidInputIf ⊥) (sym err) tt
