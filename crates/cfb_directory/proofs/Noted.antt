-- Numbers of entries in no use, in a list that has those of all.
use Rattle.std.proofs.Common.{◌≡◌, ℕ, ◌+◌, ◌-◌, ◌<◌, ◌≤◌, Bool, true, false, List, [], ◌∷◌, ◌++◌, append-nil, length, length-append, set, zero, suc, refl, sym, ap, subst, ◌∙◌, ⊎_elim, arith}
use Rattle.std.specs.Prelude.{nat_eq, slice_get, ◌||◌, ◌≢◌, MatchOption, Option, None, Some}
use Rattle.std.specs.Option.{option_to_list}
use Rattle.std.specs.List.{list_any}
use Rattle.std.proofs.lemmas.Bool.Decides.{eqb_tells, leb_tells}
use Rattle.cfb_siblings.specs.Changes.{IsUnused}
use Rattle.cfb_siblings.specs.Links.{linked_to}
use Rattle.cfb_siblings.specs.declared.links.Link.{Link}
use Rattle.cfb_siblings.specs.declared.links.Link.TheVariants.{Child, Left, Right}
use Rattle.cfb_tree.specs.Directory.{greatest_entry, kind_unallocated, Entry}
use Rattle.cfb_tree.specs.EntryViews.{kind_of}
use Rattle.cfb_tree.specs.declared.kinds.ObjType.{ObjType}
use Rattle.cfb_tree.specs.declared.kinds.ObjType.TheVariants.{Unallocated}
use Rattle.cfb_tree.proofs.OneContent.{Some_same}
use Rattle.cfb_directory.specs.Changes.{changed_entry}
use Rattle.cfb_directory.specs.Entries.{ListsUnusedEntries, HasNoneUnused, IsNoted, IsOneOf}
use Rattle.cfb_directory.specs.declared.changes.EntryChange.{EntryChange}
use Rattle.cfb_directory.specs.declared.changes.EntryChange.TheVariants.{ClassId, Created, Modified, Place, StateBits}

not_same : (n id : ℕ) → n ≤ id → (n ≡ id → ⊥) → n + 1 ≤ id
not_same n id from other = ⊎_elim (λ less. less.1) (λ past. absurd (other (let below = past.1 in omega (arith, from, below)))) (leb_tells (n + 1) id)

or_more : (a b c : Bool) → (b ≡ true → c ≡ true) → (a || b) ≡ true → (a || c) ≡ true
or_more true b c f h = refl
or_more false b c f h = f h

or_right : (a b : Bool) → b ≡ true → (a || b) ≡ true
or_right true b h = refl
or_right false b h = h

same_number : (n : ℕ) → nat_eq n n ≡ true
same_number n = ⊎_elim (λ same. same.0) (λ differ. absurd (differ.1 refl)) (eqb_tells n n)

pub one_of_push : (ns : List ℕ) (n id : ℕ) → IsOneOf ns id → IsOneOf (ns ++ n ∷ []) id
one_of_push [] n id has = absurd (cc)
one_of_push (x ∷ ns) n id has = or_more (nat_eq id x) (list_any (nat_eq id) ns) (list_any (nat_eq id) (ns ++ n ∷ [])) (one_of_push ns n id) has

pub one_of_last : (ns : List ℕ) (id : ℕ) → IsOneOf (ns ++ id ∷ []) id
one_of_last [] id = ap (λ b. b || false) (same_number id)
one_of_last (x ∷ ns) id = or_right (nat_eq id x) (list_any (nat_eq id) (ns ++ id ∷ [])) (one_of_last ns id)

one_of_front : (ns : List ℕ) (n id : ℕ) → nat_eq id n ≡ false → IsOneOf (ns ++ n ∷ []) id → IsOneOf ns id
one_of_front [] n id other has = sym (ap (λ b. b || false) other) ∙ has
one_of_front (x ∷ ns) n id other has = or_more (nat_eq id x) (list_any (nat_eq id) (ns ++ n ∷ [])) (list_any (nat_eq id) ns) (one_of_front ns n id other) has

-- the last number is dropped where its entry is in use
pub noted_front : (ns all : List ℕ) (n : ℕ) (es : List Entry) → all ≡ ns ++ n ∷ [] → (IsUnused es n → ⊥) → ListsUnusedEntries all es → ListsUnusedEntries ns es
noted_front ns all n es is used noted id unused =
    ⊎_elim
    (λ same. absurd (used (subst (IsUnused es) same.1 unused)))
    (λ differ. one_of_front ns n id differ.0 (subst (λ l. IsOneOf l id) is (noted id unused)))
    (eqb_tells id n)

pub none_noted : (ns : List ℕ) (es : List Entry) → ns ≡ [] → ListsUnusedEntries ns es → HasNoneUnused es
none_noted ns es none noted id unused = let has : IsOneOf [] id = subst (λ l. IsOneOf l id) none (noted id unused) in absurd (cc)

set_here : (es : List Entry) (id : ℕ) (e : Entry) → id < length es → slice_get (set es id e) id ≡ Some e
set_here [] id e below = absurd (omega (arith, below))
set_here (x ∷ es) zero e below = refl
set_here (x ∷ es) (suc id) e below = set_here es id e (omega (arith, below))

set_elsewhere : (es : List Entry) (id k : ℕ) (e : Entry) → (id ≡ k → ⊥) → slice_get (set es id e) k ≡ slice_get es k
set_elsewhere [] id k e other = refl
set_elsewhere (x ∷ es) zero zero e other = absurd (other refl)
set_elsewhere (x ∷ es) zero (suc k) e other = refl
set_elsewhere (x ∷ es) (suc id) zero e other = refl
set_elsewhere (x ∷ es) (suc id) (suc k) e other = set_elsewhere es id k e (λ same. other (ap suc same))

-- an entry is put in the place of another
pub noted_set : (ns : List ℕ) (es : List Entry) (id : ℕ) (e : Entry) → id < length es → IsNoted ns id e → ListsUnusedEntries ns es → ListsUnusedEntries ns (set es id e)
noted_set ns es id e below here noted k unused =
    ⊎_elim
    (λ same.
    let one : e ≡ unused.entry = Some_same (sym (set_here es id e below) ∙ ap (slice_get (set es id e)) same.1 ∙ unused.found) in
    subst (IsOneOf ns) same.1 (here (subst (λ n. n ≤ greatest_entry) (sym same.1) unused.fits) (ap (λ (x : Entry). x.kind) one ∙ unused.of_kind)))
    (λ differ. noted k (record { fits = unused.fits; entry = unused.entry; found = sym (set_elsewhere es id k e differ.1) ∙ unused.found; of_kind = unused.of_kind }))
    (eqb_tells id k)

-- an entry of the same kind is noted as the one that stands there
pub noted_same : (ns : List ℕ) (es : List Entry) (id : ℕ) (x e : Entry) → slice_get es id ≡ Some x → e.kind ≡ x.kind → ListsUnusedEntries ns es → IsNoted ns id e
noted_same ns es id x e found kind noted fits is = noted id (record { fits = fits; entry = x; found = found; of_kind = sym kind ∙ is })

pub changed_kind : (change : EntryChange) (e : Entry) → (changed_entry change e).kind ≡ e.kind
changed_kind (StateBits bits) e = refl
changed_kind (ClassId clsid) e = refl
changed_kind (Created moment) e = refl
changed_kind (Modified moment) e = refl
changed_kind (Place start size) e = refl

at_end : (ns : List ℕ) (n : ℕ) → slice_get (ns ++ n ∷ []) (length ns) ≡ Some n
at_end [] n = refl
at_end (x ∷ ns) n = at_end ns n

last_of : (ns : List ℕ) (n : ℕ) → slice_get (ns ++ n ∷ []) (length (ns ++ n ∷ []) - 1) ≡ Some n
last_of ns n = ap (slice_get (ns ++ n ∷ [])) (let both = length-append ns (n ∷ []) in omega (arith, both)) ∙ at_end ns n

-- so it is of the last number, which was popped
pub noted_pop : (ns all : List ℕ) (popped : Option ℕ) (id : ℕ) (es : List Entry) → all ≡ ns ++ option_to_list popped → Some id ≡ slice_get all (length all - 1) → (IsUnused es id → ⊥) → ListsUnusedEntries all es → ListsUnusedEntries ns es
noted_pop ns all None id es is at used noted = subst (λ l. ListsUnusedEntries l es) (is ∙ append-nil ns) noted
noted_pop ns all (Some n) id es is at used noted =
    let same : n ≡ id = Some_same (sym (last_of ns n) ∙ ap (λ l. slice_get l (length l - 1)) (sym is) ∙ sym at) in
    noted_front ns all n es is (subst (λ m. IsUnused es m → ⊥) (sym same) used) noted

some_within : (ns : List ℕ) (k : ℕ) → k < length ns → slice_get ns k ≡ None → ⊥
some_within [] k below none = absurd (omega (arith, below))
some_within (x ∷ ns) zero below none = absurd (cc)
some_within (x ∷ ns) (suc k) below none = some_within ns k (omega (arith, below)) none

pub no_last : (ns : List ℕ) → slice_get ns (length ns - 1) ≡ None → ns ≡ []
no_last [] none = refl
no_last (x ∷ ns) none = absurd (some_within (x ∷ ns) (length (x ∷ ns) - 1) (omega arith) none)

-- a byte that has no kind is not that of an entry in no use
pub no_kind : (found : Option ObjType) (kind : ℕ) → found ≡ None → MatchOption found ((k : ObjType) → kind ≢ kind_of k) (λ k. kind ≡ kind_of k) → kind ≡ kind_unallocated → ⊥
no_kind None kind is told same = told Unallocated same
no_kind (Some k) kind is told same = absurd (cc)

pub linked_kind : (link : Link) (target : ℕ) (e : Entry) → (linked_to link target e).kind ≡ e.kind
linked_kind (Child id) target e = refl
linked_kind (Left id) target e = refl
linked_kind (Right id) target e = refl

-- one entry more was looked at
pub next_noted : (ns : List ℕ) (n : ℕ) (es : List Entry) → ((id : ℕ) → n + 1 ≤ id → IsUnused es id → IsOneOf ns id) → (id : ℕ) → n ≤ id → IsUnused es id → IsOneOf (ns ++ n ∷ []) id
next_noted ns n es noted id from unused =
    ⊎_elim
    (λ same. subst (IsOneOf (ns ++ n ∷ [])) (sym same.1) (one_of_last ns n))
    (λ differ. one_of_push ns n id (noted id (not_same n id from (λ same. differ.1 (sym same))) unused))
    (eqb_tells id n)

-- and it is in use
pub next_used : (ns : List ℕ) (n : ℕ) (es : List Entry) → (IsUnused es n → ⊥) → ((id : ℕ) → n + 1 ≤ id → IsUnused es id → IsOneOf ns id) → (id : ℕ) → n ≤ id → IsUnused es id → IsOneOf ns id
next_used ns n es used noted id from unused =
    ⊎_elim
    (λ same. absurd (used (subst (IsUnused es) same.1 unused)))
    (λ differ. noted id (not_same n id from (λ same. differ.1 (sym same))) unused)
    (eqb_tells id n)
