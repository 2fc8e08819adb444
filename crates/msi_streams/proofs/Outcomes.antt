-- The rules on trees at a name under the root, and what the tree stores then of a sound package.
use Rattle.std.proofs.Common.{◌≡◌, ◌∙◌, ℕ, true, false, cond, List, [], ◌∷◌, Some, None, Option, refl, ap}
use Rattle.std.specs.Prelude.{filter, All, Ok}
use Rattle.std.specs.List.Sorted.{IsStrictlySortedBy}
use Rattle.cfb.specs.Putting.{put_over, putting}
use Rattle.cfb_spec.specs.TreeRules.{done, on_stream, refused, remove_stream, tree_step, Outcome}
use Rattle.cfb_medium.specs.declared.error.Error.TheVariants.{InvalidInput}
use Rattle.cfb_tree.specs.Changes.{added, changed, removed}
use Rattle.cfb_tree.specs.Changes.{with_bytes as with_content}
use Rattle.cfb_tree.specs.Names.{CaseTable, is_name, name_cmp}
use Rattle.cfb_tree.specs.Objects.{a_storage, a_stream, is_same_name, Object}
use Rattle.cfb_tree.specs.Tree.{child_names, Tree}
use Rattle.msi_spec.specs.Package.{PackageContent, at_name, is_stream, objects, summary_name}
use Rattle.msi_spec.specs.Streams.{stream_put, without_stream}
use Rattle.msi_spec.proofs.UnderRoot.{at_path}
use Rattle.msi_stored.specs.Changing.{PackageRule, StoresSoundPackage}
use Rattle.msi_texts.specs.StreamName.{is_marked}
use Rattle.msi_streams.proofs.Changes.{put_differs, put_streams, put_unmarked, put_where_none, put_where_one, taken_differs, taken_from, taken_streams, taken_unmarked, IsUnmarked}
use Rattle.msi_streams.proofs.Exits.{Accepts}
use Rattle.msi_streams.proofs.Stored.{is_kept, named_yet, parts_yet, stores_yet, Differs}

module _ (letters : CaseTable) (tree : Tree) (name : List ℕ) (rising : IsStrictlySortedBy (name_cmp letters) (child_names tree.content)) (P : PackageContent) (s : StoresSoundPackage letters tree P)
    (plain : is_marked name ≡ false) (other : is_same_name letters summary_name name ≡ false) where
  sound_yet : (new : Tree) → Differs letters name tree new → (streams : List Object) → streams ≡ filter (is_kept letters P) (objects new.content) → All IsUnmarked streams
      → StoresSoundPackage letters new (record P { streams = streams })
  sound_yet new d streams is unmarked = record {
    usable = s.usable;
    stores = stores_yet letters s.usable name plain other tree new d P streams s.stores is;
    counted = s.counted;
    free = s.free;
    named = named_yet letters s.usable name plain other tree new d P streams s.named unmarked;
  }

  module _ (rule : PackageRule) where
    -- ---- a stream is put where no storage stands

    module _ (bytes : List ℕ) (named : is_name name ≡ true) (streams : (o : Object) → at_name letters (objects tree.content) name ≡ Some o → is_stream o ≡ true)
        (answered : rule P (record P { streams = stream_put letters name bytes P.streams }) (Ok tt)) where
      put_to : (new : Tree) (outcome : Outcome) → outcome ≡ (new, done) → new.root ≡ tree.root → objects new.content ≡ stream_put letters name bytes (objects tree.content) → Accepts rule letters tree P outcome
      put_to new outcome is root put =
          let d = put_differs letters name tree rising new root bytes put in record {
            after = new;
            is = is;
            next = record P { streams = stream_put letters name bytes P.streams };
            answered = answered;
            stores = sound_yet new d (stream_put letters name bytes P.streams) (put_streams letters name tree rising new root s.usable plain other P bytes put streams s.stores.streams)
                (put_unmarked letters name bytes plain P.streams s.named.no_strays);
            keeps = parts_yet letters s.usable name plain other tree new d;
          }

      pub put_accepts : Accepts rule letters tree P (putting bytes letters tree (name ∷ []))
      put_accepts = by (at_name letters (objects tree.content) name) refl
        where
          outcome_is : (o : Option Object) → at_name letters (objects tree.content) name ≡ o → putting bytes letters tree (name ∷ []) ≡ put_over bytes letters tree (name ∷ []) o
          outcome_is o there = ap (put_over bytes letters tree (name ∷ [])) (at_path letters tree name ∙ there)

          by : (o : Option Object) → at_name letters (objects tree.content) name ≡ o → Accepts rule letters tree P (putting bytes letters tree (name ∷ []))
          by None none =
              put_to (added letters (a_stream name 0 bytes) (name ∷ []) tree) (putting bytes letters tree (name ∷ []))
              (outcome_is None none ∙ ap (λ b. cond b (added letters (a_stream name 0 bytes) (name ∷ []) tree, done) (tree, refused InvalidInput)) named)
              refl (put_where_none letters name tree rising bytes none)
          by (Some (a_stream n b content)) there =
              put_to (changed letters (with_content bytes) (name ∷ []) tree) (putting bytes letters tree (name ∷ [])) (outcome_is (Some (a_stream n b content)) there) refl
              (put_where_one letters name tree rising bytes (a_stream n b content) there)
          by (Some (a_storage n f inside)) there = let never : false ≡ true = streams (a_storage n f inside) there in absurd (cc)

    -- ---- a stream is taken out

    module _ (o : Object) (there : at_name letters (objects tree.content) name ≡ Some o) (stream_there : is_stream o ≡ true)
        (answered : rule P (record P { streams = without_stream letters name P.streams }) (Ok tt)) where
      pub taken_accepts : Accepts rule letters tree P (tree_step letters tree (remove_stream (name ∷ [])))
      taken_accepts =
          let new : Tree = removed letters (name ∷ []) tree in
          let is = taken_from letters name tree rising in
          let d = taken_differs letters name tree rising new refl is o there stream_there in record {
            after = new;
            is = ap (on_stream tree (λ b. (new, done))) (at_path letters tree name ∙ there) ∙ of_stream o stream_there;
            next = record P { streams = without_stream letters name P.streams };
            answered = answered;
            stores = sound_yet new d (without_stream letters name P.streams) (taken_streams letters name tree rising new refl is P s.stores.streams) (taken_unmarked letters name P.streams s.named.no_strays);
            keeps = parts_yet letters s.usable name plain other tree new d;
          }
        where
          of_stream : (o : Object) → is_stream o ≡ true → on_stream tree (λ b. (removed letters (name ∷ []) tree, done)) (Some o) ≡ (removed letters (name ∷ []) tree, done)
          of_stream (a_stream n b content) is = refl
          of_stream (a_storage n f inside) is = absurd (cc)
