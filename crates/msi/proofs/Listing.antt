-- The streams of the root as they are listed.
use Rattle.std.proofs.Common.{◌≡◌, ℕ, Bool, true, false, cond, List, [], ◌∷◌, ◌++◌, map, refl, ap}
use Rattle.std.specs.Prelude.{◌&&◌, ◌||◌, encode_utf8_all, filter, not}
use Rattle.std.specs.List.{flat_map}
use Rattle.cfb_entries.specs.Listed.{listed}
use Rattle.cfb_spec.specs.TreeRules.{Object, a_stream, children_shown}
use Rattle.cfb_spec.specs.TreeRules.{name_of as object_name}
use Rattle.cfb_tree.specs.Names.{CaseTable}
use Rattle.cfb_tree.specs.Tree.{Content, nothing, storage, stream}
use Rattle.msi_spec.specs.Package.{objects}
use Rattle.msi_spec.specs.Streams.{is_special}
use Rattle.msi_texts.specs.StreamName.{is_marked}
use Rattle.msi_texts.specs.StreamName.{name_of as decoded_name}
use Rattle.msi.proofs.Owned.{is_listed}
use Rattle.msi.specs.Lists.{name_listed}

-- the name of an object
abbrev told : Object → List ℕ
told o = encode_utf8_all (decoded_name (object_name o))

pub listed_names : (letters : CaseTable) (c : Content) → flat_map (name_listed letters) (map listed (children_shown [] c)) ≡ map told (filter (is_listed letters) (objects c))
listed_names letters nothing = refl
listed_names letters (stream name bits bytes later) = by (is_special letters name) (is_marked name) (listed_names letters later)
  where
    by : (s m : Bool) → flat_map (name_listed letters) (map listed (children_shown [] later)) ≡ map told (filter (is_listed letters) (objects later))
        → cond (s || m) [] (encode_utf8_all (decoded_name name) ∷ []) ++ flat_map (name_listed letters) (map listed (children_shown [] later))
        ≡ map told (cond (not s && not m) (a_stream name bits bytes ∷ filter (is_listed letters) (objects later)) (filter (is_listed letters) (objects later)))
    by true m rest = rest
    by false true rest = rest
    by false false rest = ap (λ names. encode_utf8_all (decoded_name name) ∷ names) rest
listed_names letters (storage name facts inside later) = listed_names letters later
