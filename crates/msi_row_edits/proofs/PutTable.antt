-- A table's stream that is put, by the rules on trees.
use Rattle.std.proofs.Common.{◌≡◌, ◌∙◌, ℕ, suc, ◌<◌, ◌≤◌, Bool, true, cond, List, [], ◌∷◌, Some, None, Option, length, refl, sym, ap, subst, inr, ⊎_elim, arith}
use Rattle.std.specs.Prelude.{◌==◌, ◌&&◌, bytes_eq, not, chars, encode_utf8_all, nat_le, Err, IsUtf8, Ok, Result}
use Rattle.std.specs.Char.Escape.{encode_utf16}
use Rattle.std.specs.List.{flat_map, list_all}
use Rattle.std.proofs.lemmas.Bool.{and_parts}
use Rattle.std.proofs.lemmas.Bool.Decides.{nat_tests}
use Rattle.cfb.specs.FollowedRules.{FileMeansTree}
use Rattle.cfb.specs.Putting.{answer_by, put_over, putting, FilePuts}
use Rattle.cfb.specs.Views.{file_case_table}
use Rattle.cfb.specs.declared.compound_file.CompoundFile.{CompoundFile}
use Rattle.cfb.proofs.PutStreams.{means_shown}
use Rattle.cfb_entries.specs.Rules.{names_in}
use Rattle.cfb_tree_edits.specs.LiveTreeRules.{IsFaultOrFull}
use Rattle.cfb_spec.specs.TreeRules.{done, refused, Outcome}
use Rattle.cfb_medium.specs.declared.error.Error.{Error}
use Rattle.cfb_medium.specs.declared.error.Error.TheVariants.{InvalidInput}
use Rattle.cfb_medium.specs.declared.medium.ReadMedium.{Ghosts}
use Rattle.cfb_tree.specs.Changes.{added, changed}
use Rattle.cfb_tree.specs.Changes.{with_bytes as with_content}
use Rattle.cfb_tree.specs.Names.{is_forbidden, is_name, name_units, CaseTable}
use Rattle.cfb_tree.specs.Objects.{a_storage, a_stream, Object}
use Rattle.cfb_tree.specs.Tree.{IsOrdered, Tree}
use Rattle.cfb_tree.proofs.OneContent.{Some_same}
use Rattle.msi_stored.proofs.Children.{unslashed}
use Rattle.msi_texts.specs.Category.{is_identifier}
use Rattle.msi_texts.specs.StreamName.{is_valid_name}
use Rattle.msi_spec.specs.Opening.{is_encoded}
use Rattle.msi_spec.specs.Package.{at_name, data_name, objects, pool_name, stream_name}
use Rattle.msi_spec.specs.Sound.{is_free_table_name}
use Rattle.msi_spec.proofs.EncodedKeys.{name_encoded}
use Rattle.msi_spec.proofs.EncodedPaths.{path_is}
use Rattle.msi_spec.proofs.Roots.{put_new, put_there}
use Rattle.msi_spec.proofs.UnderRoot.{at_path, child_is}
use Rattle.msi_rewritten.specs.Rewriting.{HasPut}
use Rattle.msi_rewritten.proofs.Names.{no_slash, storage_listed}
use Rattle.msi_rewritten.proofs.Put.{free_parts}
use Rattle.msi_row_edits.specs.Edited.{CanPut, PutsTable}

-- ---- names of tables' streams are names in the container

encoded_allowed : (cs : List ℕ) → list_all is_encoded cs ≡ true → list_all (λ c. not (is_forbidden c)) cs ≡ true
encoded_allowed [] e = refl
encoded_allowed (c ∷ cs) e =
    let both = and_parts (is_encoded c) (list_all is_encoded cs) e in
    let one : not (is_forbidden c) ≡ true = allowed c both.0 in
    rw (one, encoded_allowed cs both.1) refl
  where
    allowed : (c : ℕ) → is_encoded c ≡ true → not (is_forbidden c) ≡ true
    allowed c e = grind (arith, nat_tests, e)

abbrev rest_of : List ℕ → List ℕ
rest_of [] = []
rest_of (c ∷ cs) = cs

some_units : (m : ℕ) → nat_le 1 (suc m) ≡ true
some_units m = (let one : 1 ≤ suc m = omega arith in grind (arith, nat_tests, one))

both_tests : (a b c : Bool) → a ≡ true → b ≡ true → c ≡ true → (a && b && c) ≡ true
both_tests a b c e f h = rw (e, f, h) refl

valid_name : (name : List ℕ) → is_free_table_name name ≡ true → is_name (stream_name name) ≡ true
valid_name name free =
    let a = and_parts (is_identifier name && is_valid_name true (chars name) && not (bytes_eq name pool_name)) (not (bytes_eq name data_name)) free in
    let b = and_parts (is_identifier name && is_valid_name true (chars name)) (not (bytes_eq name pool_name)) a.0 in
    let c = and_parts (is_identifier name) (is_valid_name true (chars name)) b.0 in
    let d = and_parts (not (length (chars name) == 0) && true) (nat_le (length (name_units (stream_name name))) 31) c.1 in
    both_tests (nat_le 1 (length (name_units (stream_name name)))) (nat_le (length (name_units (stream_name name))) 31) (list_all (λ c. not (is_forbidden c)) (stream_name name))
    (some_units (length (flat_map encode_utf16 (rest_of (stream_name name))))) d.1 (encoded_allowed (stream_name name) (name_encoded name c.0))

some_name : (name : List ℕ) → is_free_table_name name ≡ true → 0 < length name
some_name [] free = absurd (cc)
some_name (b ∷ bs) free = omega arith

pub path_of : (name : List ℕ) → IsUtf8 name → is_free_table_name name ≡ true → names_in (encode_utf8_all (stream_name name)) ≡ Some (stream_name name ∷ [])
path_of name text free = path_is true name text (some_name name free) (unslashed name (no_slash name (free_parts name free).0))

-- ---- the rules

module _ (letters : CaseTable) (tree : Tree) (name bytes : List ℕ) (can : CanPut letters name tree) where
  abbrev n : List ℕ
  n = stream_name name

  no_storage_there : (m : List ℕ) (s : _) (inside : _) → at_name letters (objects tree.content) n ≡ Some (a_storage m s inside) → ⊥
  no_storage_there m s inside there =
      let listed = storage_listed letters n (objects tree.content) (a_storage m s inside) there refl in
      let never : None ≡ Some (a_storage m s inside) = sym can.no_storage ∙ listed in
      cc

  outcome_is : (o : Option Object) → at_name letters (objects tree.content) n ≡ o → putting bytes letters tree (n ∷ []) ≡ put_over bytes letters tree (n ∷ []) o
  outcome_is o there = ap (put_over bytes letters tree (n ∷ [])) (at_path letters tree n ∙ there)

  -- a rule's outcome
  record IsPut : Type 0 where
    after : Tree
    is : putting bytes letters tree (n ∷ []) ≡ (after, done)
    put : HasPut letters name bytes tree after

  is_put : IsOrdered letters tree.content → IsPut
  is_put ordered = by (at_name letters (objects tree.content) n) refl
    where
      by : (o : Option Object) → at_name letters (objects tree.content) n ≡ o → IsPut
      by None none = record {
        after = added letters (a_stream n 0 bytes) (n ∷ []) tree;
        is = outcome_is None none ∙ ap (λ b. cond b (added letters (a_stream n 0 bytes) (n ∷ []) tree, done) (tree, refused InvalidInput)) (valid_name name can.free);
        put = record { root = refl; objects = put_new letters n bytes tree.content (child_is letters tree.content n ∙ none) };
      }
      by (Some (a_stream m b content)) there = record {
        after = changed letters (with_content bytes) (n ∷ []) tree;
        is = outcome_is (Some (a_stream m b content)) there;
        put = record { root = refl; objects = put_there letters n bytes tree.content (a_stream m b content) ordered.0 (child_is letters tree.content n ∙ there) };
      }
      by (Some (a_storage m f inside)) there = absurd (no_storage_there m f inside there)

module _ {F : Type 0} {g : Ghosts F} where
  pub put_table : (name bytes text : List ℕ) → text ≡ encode_utf8_all (stream_name name) → IsUtf8 name → (old new : CompoundFile F g) (r : Result (Unit {0}) Error)
      → FilePuts (putting bytes) (names_in text) r old new → PutsTable name bytes r old new
  put_table name bytes text is utf8 old new (Ok x) p = record {
    done = λ tree m can.
        let rule = is_put (file_case_table old) tree name bytes can (means_shown old tree m).ordered in
        let d = p.done tree m in
        let same : d.names ≡ stream_name name ∷ [] = Some_same (sym d.at_path ∙ ap names_in is ∙ path_of name utf8 can.free) in
        let after_is : (putting bytes (file_case_table old) tree d.names).0 ≡ rule.after = ap (λ (o : Outcome). o.0) (ap (putting bytes (file_case_table old) tree) same ∙ rule.is) in
        (rule.after, subst (FileMeansTree new) after_is d.means, rule.put);
    refused = tt;
    rests = tt;
    seen = p.seen;
  }
  put_table name bytes text is utf8 old new (Err e) p = record {
    done = tt;
    refused = λ tree m can. ⊎_elim (λ fault. fault)
        (λ told.
        let rule = is_put (file_case_table old) tree name bytes can (means_shown old tree m).ordered in
        let path : names_in text ≡ Some (stream_name name ∷ []) = ap names_in is ∙ path_of name utf8 can.free in
        let never : done ≡ refused e = sym (ap (λ (o : Outcome). o.1) rule.is) ∙ sym (ap (answer_by (putting bytes) (file_case_table old) tree) path) ∙ told.0 in
        absurd (cc))
        (p.refused tree m);
    rests = p.rests;
    seen = p.seen;
  }

  -- a fault before the call
  pub not_put : (name bytes : List ℕ) (it : CompoundFile F g) (e : Error) → IsFaultOrFull e → PutsTable {T = Unit {0}} name bytes (Err e) it it
  not_put name bytes it e fault = record { done = tt; refused = λ tree m can. fault; rests = inr (record { means = λ tree m. m }); seen = (refl, refl, refl) }
