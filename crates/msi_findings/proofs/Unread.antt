-- Tables whose rows can't be read, one after the other.
use Rattle.std.proofs.Common.{◌≡◌, ◌∙◌, ◌⊎◌, Bool, true, false, List, [], ◌∷◌, ◌++◌, inl, inr, refl, sym, ap, subst}
use Rattle.std.specs.Prelude.{Option, Some, None, cond, is_none}
use Rattle.std.proofs.lemmas.List.{append-nil, append_assoc}
use Rattle.cfb_medium.specs.Calls.{IsFaultOrInvalidInputIf}
use Rattle.cfb_medium.specs.declared.error.Error.{Error}
use Rattle.cfb_medium.specs.declared.error.Error.TheVariants.{InvalidData}
use Rattle.cfb_tree.specs.Names.{CaseTable}
use Rattle.cfb_tree.specs.Tree.{Tree}
use Rattle.msi_findings.specs.Findings.{unread}
use Rattle.msi_stored.specs.StoredPackages.{rows_in}
use Rattle.msi_tables.specs.Rows.{Row}
use Rattle.msi_tables.specs.Table.{Heading}

module _ (letters : CaseTable) (tree : Tree) where
  pub read_table : (old : List Heading) (h : Heading) (rows : List Row) → rows_in letters tree h ≡ Some rows → old ≡ old ++ unread letters tree (h ∷ [])
  read_table old h rows is = sym (append-nil old) ∙ ap (λ (o : Option (List Row)). old ++ cond (is_none o) (h ∷ []) []) (sym is)

  pub unread_table : (old : List Heading) (h : Heading) → rows_in letters tree h ≡ None → old ++ (h ∷ []) ≡ old ++ unread letters tree (h ∷ [])
  unread_table old h is = ap (λ (o : Option (List Row)). old ++ cond (is_none o) (h ∷ []) []) (sym is)

  one_by_one : (h : Heading) (hs : List Heading) → unread letters tree (h ∷ hs) ≡ unread letters tree (h ∷ []) ++ unread letters tree hs
  one_by_one h hs = by_test (is_none (rows_in letters tree h))
    where
      by_test : (b : Bool) → cond b (h ∷ unread letters tree hs) (unread letters tree hs) ≡ cond b (h ∷ []) [] ++ unread letters tree hs
      by_test true = refl
      by_test false = refl

  -- those that were found, and those to come
  pub unread_more : (old new all before hs : List Heading) (h : Heading) → before ≡ h ∷ hs → new ≡ old ++ unread letters tree (h ∷ [])
      → old ++ unread letters tree before ≡ all → new ++ unread letters tree hs ≡ all
  unread_more old new all before hs h more found so_far =
      ap (λ l. l ++ unread letters tree hs) found
      ∙ append_assoc old (unread letters tree (h ∷ [])) (unread letters tree hs)
      ∙ ap (λ l. old ++ l) (sym (one_by_one h hs) ∙ ap (unread letters tree) (sym more))
      ∙ so_far

  pub unread_all : (old all before : List Heading) → before ≡ [] → old ++ unread letters tree before ≡ all → old ≡ all
  unread_all old all before none so_far = sym (append-nil old) ∙ ap (λ l. old ++ unread letters tree l) (sym none) ∙ so_far

-- an error that tells of a table that can't be read
pub unread_so : (e : Error) (A : Type 0) → e ≡ InvalidData → IsFaultOrInvalidInputIf ⊥ e ⊎ ((e ≡ InvalidData) × A) → A
unread_so e A is (inl fault) = absurd (subst (IsFaultOrInvalidInputIf ⊥) is fault)
unread_so e A is (inr both) = both.1
