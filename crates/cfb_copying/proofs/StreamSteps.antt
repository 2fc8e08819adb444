-- A stream more among those that were copied.
use Rattle.std.proofs.Common.{◌≡◌, ℕ, zero, suc, ◌+◌, ◌<◌, ◌≤◌, ◌⊎◌, inl, inr, List, [], ◌∷◌, ◌++◌, length, length-append, take, drop, refl, ap, sym, subst, ◌∙◌, arith, ⊎_elim}
use Rattle.std.specs.Prelude.{false, nat_eq, slice_get, slice_index, slice_set, Some}
use Rattle.std.specs.List.{AllByRecursion, IsDistinct}
use Rattle.std.proofs.Math.ListN.{length-set}
use Rattle.std.proofs.Math.Seq.{get_or-append_seam}
use Rattle.std.proofs.lemmas.Bool.Decides.{eqb_tells}
use Rattle.std.proofs.lemmas.List.{get_or_append_left}
use Rattle.cfb_medium.specs.declared.medium.ReadMedium.{Ghosts}
use Rattle.cfb_sectors.specs.Header.{mini_cutoff}
use Rattle.cfb_sectors.specs.Sectors.{end_of_chain, joined}
use Rattle.cfb_chains.specs.Changes.{IsNotIn}
use Rattle.cfb_fat.specs.Growing.{IsLean}
use Rattle.cfb_fat.specs.Keeping.{lean_same}
use Rattle.cfb_fat.specs.Tables.{version_of}
use Rattle.cfb_fat.specs.declared.allocator.Allocator.{Allocator}
use Rattle.cfb_ownership.specs.LiveFile.{LiveFile}
use Rattle.cfb_ownership.specs.Owners.{directory_owner, first_of, mini_fat_owner, mini_stream_owner, stream_owner, Owners}
use Rattle.cfb_siblings.proofs.Colors.{set_other}
use Rattle.cfb_siblings.proofs.Frames.{set_found}
use Rattle.cfb_tree.specs.Directory.{kind_stream, Entry}
use Rattle.cfb_copying.specs.Copied.{IsLongAmong, Restarts}
use Rattle.cfb_copying.specs.Making.{with_list, IsFileInProgress, IsOneOf}
use Rattle.cfb_copying.specs.Steps.{sectors_among, HasCopied, IsNext}
use Rattle.cfb_copying.proofs.Counted.{sectors_more}
use Rattle.cfb_copying.proofs.CopiedTight.{one_behind, one_of_two}
use Rattle.cfb_copying.proofs.Made.{at_key, at_other, other_test}
use Rattle.cfb_copying.proofs.Tight.{one_is_not_none}

-- a number is among some and one more
one_in_front : (xs ys : List ℕ) (n : ℕ) → IsOneOf xs n → IsOneOf (xs ++ ys) n
one_in_front xs ys n one = let below = one.1 in let size = length-append xs ys in (one.0, omega (arith, below, size), get_or_append_left xs ys 0 one.0 below ∙ one.2)

one_at_end : (xs : List ℕ) (n : ℕ) → IsOneOf (xs ++ n ∷ []) n
one_at_end xs n = let size = length-append xs (n ∷ []) in (length xs, omega (arith, size), get_or-append_seam xs n [] 0)

one_or_last : (xs : List ℕ) (n k : ℕ) → IsOneOf (xs ++ n ∷ []) k → IsOneOf xs k ⊎ (k ≡ n)
one_or_last xs n k one = ⊎_elim (λ front. inl front) (λ last. ⊎_elim (λ same. inr (sym same)) (λ nothing. let below = nothing.1 in absurd (omega (arith, below))) (one_behind [] n k last)) (one_of_two xs (n ∷ []) k one)

-- the next of numbers of which none stands twice is none of those before it
pub next_fresh : (xs : List ℕ) (i : ℕ) → IsDistinct nat_eq xs → i < length xs → IsNotIn (take i xs) (slice_index xs i)
unfolding IsDistinct
next_fresh [] i once below = absurd (omega (arith, below))
next_fresh (x ∷ xs) zero once below = λ k there same. absurd (omega (arith, there))
next_fresh (x ∷ xs) (suc i) once below = by_place (next_fresh xs i once.1 (omega (arith, below)))
  where
    other_than : (ys : List ℕ) (j : ℕ) → AllByRecursion (λ y. nat_eq x y ≡ false) ys → j < length ys → x ≡ slice_index ys j → ⊥
    other_than [] j all there same = omega (arith, there)
    other_than (y ∷ ys) zero all there same = let wrong = all.0 in let right = ap (nat_eq x) same in grind (arith, wrong, right)
    other_than (y ∷ ys) (suc j) all there same = other_than ys j all.1 (omega (arith, there)) same

    by_place : IsNotIn (take i xs) (slice_index xs i) → IsNotIn (take (suc i) (x ∷ xs)) (slice_index (x ∷ xs) (suc i))
    by_place later zero there same = other_than xs i once.0 (omega (arith, below)) same
    by_place later (suc k) there same = later k (omega (arith, there)) same

split_at : (xs : List ℕ) (i : ℕ) → i < length xs → xs ≡ take i xs ++ slice_index xs i ∷ drop (suc i) xs
split_at [] i below = absurd (omega (arith, below))
split_at (x ∷ xs) zero below = refl
split_at (x ∷ xs) (suc i) below = ap (λ l. x ∷ l) (split_at xs i (omega (arith, below)))

pub next_of : (xs : List ℕ) (i : ℕ) → IsDistinct nat_eq xs → i < length xs → IsNext xs (take i xs) (slice_index xs i)
next_of xs i once below = record { among = (i, below, refl); fresh = next_fresh xs i once below; rest = drop (suc i) xs; splits = split_at xs i below }

module _ (es : List Entry) (done : List ℕ) (id : ℕ) (e : Entry) (found : slice_get es id ≡ Some e) where
  abbrev more : List ℕ
  more = done ++ id ∷ []

  bigger : (k : ℕ) → IsLongAmong es done k → IsLongAmong es more k
  bigger k it = record { entry = it.entry; found = it.found; of_kind = it.of_kind; long = it.long; among = one_in_front done (id ∷ []) k it.among }

  either : (k : ℕ) → IsLongAmong es more k → IsLongAmong es done k ⊎ ((k ≡ id) × (e.kind ≡ kind_stream) × (mini_cutoff ≤ e.size))
  either k it = ⊎_elim
      (λ before. inl (record { entry = it.entry; found = it.found; of_kind = it.of_kind; long = it.long; among = before }))
      (λ same. let both : Some it.entry ≡ Some e = sym it.found ∙ ap (slice_get es) same ∙ found in let is : it.entry ≡ e = cc in
      inr (same, sym (ap (λ x. x.kind) is) ∙ it.of_kind, subst (λ x. mini_cutoff ≤ x.size) is it.long))
      (one_or_last done id k it.among)

  -- an entry that is no long stream stays
  module _ (short : e.kind ≡ kind_stream → mini_cutoff ≤ e.size → ⊥) where
    fewer : (k : ℕ) → IsLongAmong es more k → IsLongAmong es done k
    fewer k it = ⊎_elim (λ before. before) (λ here. absurd (short here.1 here.2)) (either k it)

    restarts_short : (own : ℕ → List ℕ) (later : List Entry) → Restarts es done own later → Restarts es more own later
    restarts_short own later h = record {
      size = h.size;
      root = h.root;
      long = λ k x past it at. h.long k x past (fewer k it) at;
      other = λ k past apart. h.other k past (λ it. apart (bigger k it));
    }

  -- a long one begins where its copy does
  module _ (kind : e.kind ≡ kind_stream) (long : mini_cutoff ≤ e.size) (fresh : IsNotIn done id) (past : id ≡ 0 → ⊥) (sectors : List ℕ) where
    here : IsLongAmong es more id
    here = record { entry = e; found = found; of_kind = kind; long = long; among = one_at_end done id }

    abbrev key : ℕ
    key = stream_owner id

    other_key : (k : ℕ) → (k ≡ id → ⊥) → stream_owner k ≡ key → ⊥
    other_key k other same = other (omega (arith, same))

    restarts_long : (own : ℕ → List ℕ) (later : List Entry) → Restarts es done own later → Restarts es more (with_list key sectors own) (slice_set later id (record e { start = first_of sectors }))
    restarts_long own later h =
        let new = record e { start = first_of sectors } in
        let was : slice_get later id ≡ Some e = h.other id past (λ it. one_is_not_none done id it.among fresh) ∙ found in record {
          size = length-set later id new ∙ h.size;
          root = λ x at. set_other later id 0 new (other_test id 0 past) ∙ h.root x at ∙ ap {A = List ℕ} (λ l. Some (record x { start = first_of l })) (sym (at_other key sectors own mini_stream_owner (λ same. omega (arith, same))));
          long = λ k x not_root it at. ⊎_elim
              (λ same.
              let both : Some x ≡ Some e = sym at ∙ ap (slice_get es) same.1 ∙ found in
              let is : x ≡ e = cc in
              ap (slice_get (slice_set later id new)) same.1 ∙ set_found later id e new was ∙ ap {A = Entry} (λ y. Some (record y { start = first_of sectors })) (sym is)
              ∙ ap {A = List ℕ} (λ l. Some (record x { start = first_of l })) (sym (at_key key sectors own) ∙ ap (λ n. with_list key sectors own (stream_owner n)) (sym same.1)))
              (λ other. ⊎_elim
              (λ before. set_other later id k new (other_test id k (λ same. other.1 (sym same))) ∙ h.long k x not_root before at
              ∙ ap {A = List ℕ} (λ l. Some (record x { start = first_of l })) (sym (at_other key sectors own (stream_owner k) (other_key k other.1))))
              (λ is. absurd (other.1 is.0))
              (either k it))
              (eqb_tells k id);
          other = λ k not_root apart.
              let differ : k ≡ id → ⊥ = λ same. apart (subst (IsLongAmong es more) (sym same) here) in
              set_other later id k new (other_test id k (λ same. differ (sym same))) ∙ h.other k not_root (λ it. apart (bigger k it));
        }

module _ {F : Type 0} {g : Ghosts F} (s : LiveFile) (who : Owners) (done minis : List ℕ) (later : List Entry) (id : ℕ) (e : Entry) (found : slice_get s.entries id ≡ Some e) where
  -- it has its entry yet
  pub entry_yet : (a : Allocator F g) → HasCopied s who done minis later a → IsNotIn done id → (id ≡ 0 → ⊥) → slice_get later id ≡ Some e
  entry_yet a h fresh past = h.restarts.other id past (λ it. one_is_not_none done id it.among fresh) ∙ found

  -- what is no long stream needs nothing
  pub short_then : (a : Allocator F g) → HasCopied s who done minis later a → (e.kind ≡ kind_stream → mini_cutoff ≤ e.size → ⊥) → HasCopied s who (done ++ id ∷ []) minis later a
  short_then a h short = record {
    own = h.own;
    bytes = h.bytes;
    made = h.made;
    version = h.version;
    directory = h.directory;
    minis_are = h.minis_are;
    mini_fat = h.mini_fat;
    mini_stream = h.mini_stream;
    streams = λ k it. h.streams k (fewer s.entries done id e found short k it);
    none = λ k apart. h.none k (λ it. apart (bigger s.entries done id e found k it));
    restarts = restarts_short s.entries done id e found short h.own later h.restarts;
    lean = lean_same (version_of a) (version_of a) _ _ _ (length (sectors_among who done) + 1) _ _ _ _ refl refl refl refl (let size = sectors_more who done id in omega (arith, size)) h.lean;
  }

  -- a long one was copied to sectors of its own
  pub long_then : (a b : Allocator F g) (sectors : List ℕ) → (h : HasCopied s who done minis later a) → e.kind ≡ kind_stream → mini_cutoff ≤ e.size → IsNotIn done id → (id ≡ 0 → ⊥) → version_of b ≡ version_of a
      → IsFileInProgress 1 end_of_chain b (with_list (stream_owner id) sectors h.own) (with_list (stream_owner id) (joined s.version s.bytes (who.sectors (stream_owner id))) h.bytes)
      → IsLean b (length (sectors_among who done) + 1 + length (who.sectors (stream_owner id)))
      → HasCopied s who (done ++ id ∷ []) minis (slice_set later id (record e { start = first_of sectors })) b
  long_then a b sectors h kind long fresh past same made lean =
      let key = stream_owner id in
      let content = joined s.version s.bytes (who.sectors key) in record {
        own = with_list key sectors h.own;
        bytes = with_list key content h.bytes;
        made = made;
        version = same ∙ h.version;
        directory = at_other key sectors h.own directory_owner (λ is. omega (arith, is)) ∙ h.directory;
        minis_are = at_other key sectors h.own mini_fat_owner (λ is. omega (arith, is)) ∙ h.minis_are;
        mini_fat = at_other key content h.bytes mini_fat_owner (λ is. omega (arith, is)) ∙ h.mini_fat;
        mini_stream = at_other key content h.bytes mini_stream_owner (λ is. omega (arith, is)) ∙ h.mini_stream;
        streams = λ k it. ⊎_elim
            (λ is. ap (λ n. with_list key content h.bytes (stream_owner n)) is.1 ∙ at_key key content h.bytes ∙ ap (λ n. joined s.version s.bytes (who.sectors (stream_owner n))) (sym is.1))
            (λ other. ⊎_elim
            (λ before. at_other key content h.bytes (stream_owner k) (other_key s.entries done id e found kind long fresh past sectors k other.1) ∙ h.streams k before)
            (λ is. absurd (other.1 is.0))
            (either s.entries done id e found k it))
            (eqb_tells k id);
        none = λ k apart.
            let differ : k ≡ id → ⊥ = λ is. apart (subst (IsLongAmong s.entries (done ++ id ∷ [])) (sym is) (here s.entries done id e found kind long fresh past sectors)) in
            at_other key sectors h.own (stream_owner k) (other_key s.entries done id e found kind long fresh past sectors k differ) ∙ h.none k (λ it. apart (bigger s.entries done id e found k it));
        restarts = restarts_long s.entries done id e found kind long fresh past sectors h.own later h.restarts;
        lean = lean_same (version_of b) (version_of b) _ _ _ (length (sectors_among who done) + 1 + length (who.sectors key)) _ _ _ _ refl refl refl refl (let size = sectors_more who done id in omega (arith, size)) lean;
      }
