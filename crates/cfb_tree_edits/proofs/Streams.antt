-- The bytes of a stream, told by where it begins and how many they are.
use Rattle.std.proofs.Common.{◌≡◌, ℕ, ◌≤◌, Bool, true, false, List, [], ◌∷◌, length, take, zero, suc, refl, ap, sym, subst, ◌∙◌, arith, ⊎_elim}
use Rattle.std.specs.Prelude.{slice_get, Option, Some, None, nat_le, nat_lt, if◌then◌else◌, bytes_eq, IsTrue}
use Rattle.std.proofs.lemmas.Slice.Eq.{bytes_eq-Decides}
use Rattle.std.proofs.lemmas.Bool.Decides.{leb_tells}
use Rattle.cfb_sectors.specs.Header.{mini_cutoff}
use Rattle.cfb_sectors.specs.Sectors.{greatest_regular, joined, Chain}
use Rattle.cfb_sectors.proofs.Chains.{chain_short}
use Rattle.cfb_tree.specs.Directory.{Entry}
use Rattle.cfb_ownership.specs.Held.{mini_joined, OwnerHasStream}
use Rattle.cfb_ownership.specs.LiveInvariant.{LiveFileInvariant}
use Rattle.cfb_ownership.specs.LiveFile.{LiveFile}
use Rattle.cfb_ownership.specs.Owners.{stream_owner, Owners}

abbrev walked : (ℕ → List ℕ) → ℕ → Option ℕ → List ℕ
walked go n None = []
walked go n (Some next) = n ∷ go next

-- the chain from a start, of so many sectors at most
abbrev chain_from : ℕ → List ℕ → ℕ → List ℕ
chain_from zero table n = []
chain_from (suc k) table n = if nat_le n greatest_regular then walked (chain_from k table) n (slice_get table n) else []

pub chain_is : (table : List ℕ) (k start : ℕ) (ids : List ℕ) → Chain table start ids → length ids ≤ k → chain_from k table start ≡ ids
chain_is table zero start [] chain fits = refl
chain_is table zero start (x ∷ ids) chain fits = absurd (omega (arith, fits))
chain_is table (suc k) start [] chain fits = subst (λ n. chain_from (suc k) table n ≡ []) (sym chain) refl
chain_is table (suc k) start (x ∷ ids) (is, regular, next, found, rest) fits =
    let small : nat_le start greatest_regular ≡ true = grind arith in
    let tail : chain_from k table next ≡ ids = chain_is table k next ids rest (omega (arith, fits)) in
    rw small (rw found (ap (λ l. start ∷ l) tail ∙ ap (λ n. n ∷ ids) (sym is)))

-- the first so many bytes of the chain
pub bytes_from : LiveFile → Owners → ℕ → ℕ → List ℕ
bytes_from s who start size =
    if nat_lt size mini_cutoff
    then take size (mini_joined s who (chain_from (length s.mini_fat) s.mini_fat start))
    else take size (joined s.version s.bytes (chain_from (length s.fat) s.fat start))

-- as a test
pub reads : LiveFile → Owners → ℕ → ℕ → List ℕ → Bool
reads s who start size bytes = bytes_eq bytes (bytes_from s who start size)

pub reads_means : (s : LiveFile) (who : Owners) (start size : ℕ) (bytes : List ℕ) → IsTrue (reads s who start size bytes) → bytes ≡ bytes_from s who start size
unfolding reads
reads_means s who start size bytes is = (bytes_eq-Decides bytes (bytes_from s who start size)).0 is

pub reads_so : (s : LiveFile) (who : Owners) (start size : ℕ) (bytes : List ℕ) → bytes ≡ bytes_from s who start size → IsTrue (reads s who start size bytes)
unfolding reads
reads_so s who start size bytes is = (bytes_eq-Decides bytes (bytes_from s who start size)).1 is

pub no_bytes : (s : LiveFile) (who : Owners) (start : ℕ) → [] ≡ bytes_from s who start 0
unfolding bytes_from
no_bytes s who start = refl

-- nothing is read of an empty stream
pub reads_nothing : (s : LiveFile) (who : Owners) (start : ℕ) → IsTrue (reads s who start 0 [])
reads_nothing s who start = reads_so s who start 0 [] (no_bytes s who start)

module _ (s : LiveFile) (who : Owners) (root : Entry) (kept : LiveFileInvariant s who root) where
  -- what a stream has is what is read of it
  pub stream_is : (id : ℕ) (e : Entry) (content : List ℕ) → OwnerHasStream s who id e content → content ≡ bytes_from s who e.start e.size
  unfolding bytes_from
  stream_is id e content h =
      ⊎_elim
      (λ up.
      let lies = (h.long up.1).1 in
      let ids = who.sectors (stream_owner id) in
      let chain = subst (λ n. Chain s.fat n ids) (sym lies.start) (kept.owned.linked (stream_owner id)) in
      let same = chain_is s.fat (length s.fat) e.start ids chain (chain_short s.fat e.start ids chain) in
      let not_short : nat_lt e.size mini_cutoff ≡ false = let past = up.1 in grind (arith, past) in
      rw not_short (lies.content_is ∙ ap (λ l. take e.size (joined s.version s.bytes l)) (sym same)))
      (λ below.
      let lies = (h.short below.1).1 in
      let ids = who.minis (stream_owner id) in
      let chain = subst (λ n. Chain s.mini_fat n ids) (sym lies.start) (kept.minis_owned.linked (stream_owner id)) in
      let same = chain_is s.mini_fat (length s.mini_fat) e.start ids chain (chain_short s.mini_fat e.start ids chain) in
      let short : nat_lt e.size mini_cutoff ≡ true = let few = below.1 in grind (arith, few) in
      rw short (lies.content_is ∙ ap (λ l. take e.size (mini_joined s who l)) (sym same)))
      (leb_tells mini_cutoff e.size)
