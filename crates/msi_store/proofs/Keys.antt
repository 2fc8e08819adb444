-- Names that are looked up by their keys.
use Rattle.std.proofs.Common.{◌≡◌, ◌∙◌, ℕ, Bool, true, false, List, [], ◌∷◌, map, refl, sym, ap}
use Rattle.std.specs.Prelude.{◌==◌, ◌||◌, ◌++◌, Vec, bytes_eq, not}
use Rattle.std.proofs.lemmas.Map.Text.{is_eq-slice_cmp}
use Rattle.std.proofs.lemmas.List.Folds.{list_any-append}
use Rattle.std.specs.BTreeSet.{contains_by, insert_key}
use Rattle.std.specs.Cmp.Lexicographic.{slice_cmp}
use Rattle.std.specs.List.{list_any}
use Rattle.std.specs.Ordering.{is_eq, match_ordering, nat_cmp, ordering_index}
use Rattle.std.specs.declared.alloc.Global.{Global}
use Rattle.std.specs.declared.cmp.Ordering.{Ordering}
use Rattle.std.specs.declared.cmp.Ordering.TheVariants.{Equal, Greater, Less}
use Rattle.cfb_tree.proofs.NameOrder.{name_cmp_equal, slice_cmp_equal}
use Rattle.cfb_tree.specs.Names.{CaseTable, name_key}
use Rattle.cfb_tree.specs.Objects.{is_same_name}
use Rattle.msi_spec.proofs.SystemRows.{bytes_same}
use Rattle.msi_values.proofs.DataOrder.{is_equal}
use Rattle.msi_spec.specs.Package.{data_name, pool_name, stream_name}
use Rattle.msi_store.specs.Placing.{KeysMatchTables, is_one_of, is_placed}
use Rattle.msi_store.specs.declared.placing.TableStreams.{TableStreams}
use Rattle.msi_tables.specs.Table.{Heading}
use Rattle.msi_texts.specs.StreamName.{is_marked}

-- a key is the one that is asked for
abbrev pub is_key : List ℕ → Vec ℕ Global → Bool
is_key key x = is_eq (slice_cmp nat_cmp key x.items)

abbrev pub vec_cmp : Vec ℕ Global → Vec ℕ Global → Ordering
vec_cmp x y = slice_cmp nat_cmp x.items y.items

twice : (a r : Bool) → a || r ≡ a || (a || r)
twice true r = refl
twice false r = refl

turned : (a b r : Bool) → a || (b || r) ≡ b || (a || r)
turned true true r = refl
turned true false r = refl
turned false b r = refl

-- a key is found among others that were put there, or is the new one
pub inserted : (key : List ℕ) (ks : List (Vec ℕ Global)) (k : Vec ℕ Global) → list_any (is_key key) (insert_key vec_cmp ks k) ≡ is_key key k || list_any (is_key key) ks
inserted key [] k = refl
inserted key (x ∷ xs) k = by (vec_cmp k x) refl (inserted key xs k)
  where
    by : (o : Ordering) → vec_cmp k x ≡ o → list_any (is_key key) (insert_key vec_cmp xs k) ≡ is_key key k || list_any (is_key key) xs
        → list_any (is_key key) (match_ordering o (k ∷ x ∷ xs) (x ∷ xs) (x ∷ insert_key vec_cmp xs k)) ≡ is_key key k || (is_key key x || list_any (is_key key) xs)
    by Less e later = refl
    by Equal e later =
        let same : k.items ≡ x.items = slice_cmp_equal k.items x.items e in
        let here : is_key key x ≡ is_key key k = ap (λ items. is_eq (slice_cmp nat_cmp key items)) (sym same) in
        twice (is_key key x) (list_any (is_key key) xs) ∙ ap (λ b. b || (is_key key x || list_any (is_key key) xs)) here
    by Greater e later = ap (λ b. is_key key x || b) later ∙ turned (is_key key x) (is_key key k) (list_any (is_key key) xs)

-- a name is another's by key, whichever way keys are compared
pub same_is : (letters : CaseTable) (n m : List ℕ) → is_eq (slice_cmp nat_cmp (name_key letters m) (name_key letters n)) ≡ is_same_name letters n m
same_is letters n m = by (is_eq (slice_cmp nat_cmp (name_key letters m) (name_key letters n))) (is_same_name letters n m) refl refl
  where
    of_key : is_eq (slice_cmp nat_cmp (name_key letters m) (name_key letters n)) ≡ true → is_same_name letters n m ≡ true
    of_key e =
        let keys : name_key letters m ≡ name_key letters n = slice_cmp_equal (name_key letters m) (name_key letters n) (is_equal _ e) in
        ap is_eq ((name_cmp_equal letters n m).1 (sym keys))

    to_key : is_same_name letters n m ≡ true → is_eq (slice_cmp nat_cmp (name_key letters m) (name_key letters n)) ≡ true
    to_key e =
        let keys : name_key letters n ≡ name_key letters m = (name_cmp_equal letters n m).0 (is_equal _ e) in
        is_eq-slice_cmp (name_key letters m) (name_key letters n) ∙ ap (λ k. bytes_eq k (name_key letters n)) (sym keys) ∙ bytes_same (name_key letters n)

    by : (a b : Bool) → is_eq (slice_cmp nat_cmp (name_key letters m) (name_key letters n)) ≡ a → is_same_name letters n m ≡ b
        → is_eq (slice_cmp nat_cmp (name_key letters m) (name_key letters n)) ≡ is_same_name letters n m
    by true b ea eb = ea ∙ sym (of_key ea)
    by false true ea eb = to_key eb ∙ sym eb
    by false false ea eb = ea ∙ sym eb

-- the key of a name is among those of names where one of these is the name
pub one_of : (letters : CaseTable) (names : List (List ℕ)) (name : List ℕ) → list_any (λ n. is_eq (slice_cmp nat_cmp (name_key letters name) (name_key letters n))) names ≡ is_one_of letters names name
one_of letters [] name = refl
one_of letters (n ∷ ns) name = ap (λ b. b || list_any (λ n. is_eq (slice_cmp nat_cmp (name_key letters name) (name_key letters n))) ns) (same_is letters n name) ∙ ap (λ b. is_same_name letters n name || b) (one_of letters ns name)

-- the key of a name stands among those of tables where the name counts as one of theirs
pub is_found : (letters : CaseTable) (headings : List Heading) (it : TableStreams) → KeysMatchTables letters headings it → (key name : List ℕ) → key ≡ name_key letters name
    → contains_by (λ x. slice_cmp nat_cmp key x.items) it.keys ≡ is_one_of letters (map (λ h. stream_name h.name) headings) name
is_found letters headings it has key name same =
    let names = map (λ h. stream_name h.name) headings in
    has.keys key ∙ ap (λ k. list_any (λ n. is_eq (slice_cmp nat_cmp k (name_key letters n))) names) same ∙ one_of letters names name

-- a stream stands where it may: it isn't marked, or is a table's, or one of the pool's two
pub placed_stream : (letters : CaseTable) (headings : List Heading) (name : List ℕ) (marked table pool : Bool)
    → marked ≡ is_marked name → table ≡ is_one_of letters (map (λ h. stream_name h.name) headings) name
    → pool ≡ is_same_name letters (stream_name pool_name) name || is_same_name letters (stream_name data_name) name
    → not marked || (table || pool) ≡ is_placed letters headings name false
placed_stream letters headings name marked table pool em et ep =
    let one = is_one_of letters (map (λ h. stream_name h.name) headings) name in
    ap (λ b. not b || (table || pool)) em ∙ ap (λ b. not (is_marked name) || (b || pool)) et ∙ ap (λ b. not (is_marked name) || (one || b)) ep
    ∙ ap (λ b. not (is_marked name) || b) (round one (is_same_name letters (stream_name pool_name) name) (is_same_name letters (stream_name data_name) name))
  where
    round : (t p d : Bool) → t || (p || d) ≡ p || (d || t)
    round true true d = refl
    round true false true = refl
    round true false false = refl
    round false true d = refl
    round false false true = refl
    round false false false = refl

-- the order by its index
pub equal_index : (o : Ordering) → (ordering_index o == 1) ≡ is_eq o
equal_index Less = refl
equal_index Equal = refl
equal_index Greater = refl

-- the keys of names, and that of one more
pub one_more : (letters : CaseTable) (names : List (List ℕ)) (name : List ℕ) (old : List (Vec ℕ Global)) (k : Vec ℕ Global) → k.items ≡ name_key letters name
    → ((key : List ℕ) → list_any (is_key key) old ≡ list_any (λ n. is_eq (slice_cmp nat_cmp key (name_key letters n))) names)
    → (key : List ℕ) → list_any (is_key key) (insert_key vec_cmp old k) ≡ list_any (λ n. is_eq (slice_cmp nat_cmp key (name_key letters n))) (names ++ name ∷ [])
one_more letters names name old k same told key =
    let is = λ (n : List ℕ). is_eq (slice_cmp nat_cmp key (name_key letters n)) in
    inserted key old k ∙ ap (λ items. is_eq (slice_cmp nat_cmp key items) || list_any (is_key key) old) same ∙ ap (λ b. is name || b) (told key)
    ∙ swap (is name) (list_any is names) ∙ sym (list_any-append is names (name ∷ []))
  where
    swap : (a b : Bool) → a || b ≡ b || (a || false)
    swap true true = refl
    swap true false = refl
    swap false true = refl
    swap false false = refl
