-- A chain more in a file in the making.
use Rattle.std.proofs.Common.{◌≡◌, ℕ, inl, inr, false, IsTrue, List, [], ◌∷◌, ◌++◌, append-nil, ap, sym, subst, ◌∙◌, arith, ⊎_elim}
use Rattle.std.specs.Prelude.{nat_eq, true, if◌then◌else◌}
use Rattle.std.proofs.lemmas.Bool.Decides.{eqb_tells}
use Rattle.cfb_medium.specs.Bytes.{overwritten}
use Rattle.cfb_medium.specs.declared.version.Version.{Version}
use Rattle.cfb_medium.specs.declared.medium.ReadMedium.{Ghosts}
use Rattle.cfb_sectors.specs.Header.{IsHeader}
use Rattle.cfb_sectors.specs.Sectors.{joined, sector}
use Rattle.cfb_chains.specs.Behind.{AreWhole}
use Rattle.cfb_chains.specs.Changes.{IsNotIn}
use Rattle.cfb_chains.specs.LinkViews.{ids_of}
use Rattle.cfb_chains.specs.Owned.{ReplacesChain, ChangesAtMost, ReplacesOwnedChain, SectorLayer}
use Rattle.cfb_chains.specs.declared.links.Links.{Links}
use Rattle.cfb_chains.proofs.Owners.{other_left, owned_changed}
use Rattle.cfb_fat.specs.declared.allocator.Allocator.{Allocator}
use Rattle.cfb_fat.specs.Seeing.{seen_of}
use Rattle.cfb_fat.specs.Tables.{bytes_of, has_failed_here, is_honest, version_of}
use Rattle.cfb_chain_io.specs.ChainEffects.{KeepsFileInvariants, Overwrites}
use Rattle.cfb_copying.specs.Chains.{CopiesChain}
use Rattle.cfb_copying.specs.Making.{with_list, IsFileInProgress}
use Rattle.cfb_copying.proofs.Pieces.{whole_still}
use Rattle.cfb_copying.proofs.Tight.{tight_then}
use Rattle.cfb_mini.proofs.Headers.{header_stays, u32_same, KeepsFront}
use Rattle.cfb_chains.proofs.Beside.{none_first}

same_test : (k : ℕ) → nat_eq k k ≡ true
same_test k = grind arith

pub other_test : (k key : ℕ) → (k ≡ key → ⊥) → nat_eq k key ≡ false
other_test k key other = grind arith

pub at_key : (key : ℕ) (xs : List ℕ) (lists : ℕ → List ℕ) → with_list key xs lists key ≡ xs
at_key key xs lists = ap (λ b. if b then xs else lists key) (same_test key)

pub at_other : (key : ℕ) (xs : List ℕ) (lists : ℕ → List ℕ) (k : ℕ) → (k ≡ key → ⊥) → with_list key xs lists k ≡ lists k
at_other key xs lists k other = ap (λ b. if b then xs else lists k) (other_test k key other)

both_whole : (v : Version) (bytes xs ys : List ℕ) → AreWhole v bytes xs → AreWhole v bytes ys → AreWhole v bytes (xs ++ ys)
both_whole v bytes [] ys first second = second
both_whole v bytes (x ∷ xs) ys first second = (first.0, both_whole v bytes xs ys first.1 second)

-- a change that spares the header's front keeps what it says
front_kept : (S : List ℕ → ℕ → List ℕ) (a b : SectorLayer) (touched : List ℕ) → ChangesAtMost S [] touched a b → KeepsFront 68 a.bytes b.bytes
front_kept S a b touched leaves place count front beside = leaves.header place count front (⊎_elim (λ low. inl (omega (arith, low))) (λ high. inr (omega (arith, high))) beside, tt)

module _ {F : Type 0} {g : Ghosts F} where
  -- an owner's chain became a longer one, or the same
  pub made_then : (d m : ℕ) (a b : Allocator F g) (own bytes : ℕ → List ℕ) (key : ℕ) (more ids content : List ℕ) → IsFileInProgress d m a own bytes → KeepsFileInvariants a b → has_failed_here b ≡ false → IsTrue (is_honest b)
      → ReplacesChain (sector (version_of a)) [] (own key) more ids (seen_of a) (seen_of b) → ids ≡ own key ++ more → joined (version_of b) (bytes_of b) ids ≡ content → AreWhole (version_of a) (bytes_of b) more
      → IsFileInProgress d m b (with_list key ids own) (with_list key content bytes)
  unfolding seen_of
  made_then d m a b own bytes key more ids content made goes live honest becomes all holds whole =
      let v = version_of a in
      let S = sector v in
      let later = with_list key ids own in
      let longer = becomes.leaves.longer in
      let front = front_kept S (seen_of a) (seen_of b) (own key ++ more) becomes.leaves in
      let moves : ReplacesOwnedChain S [] key ids more (seen_of a) (seen_of b) own later = record { becomes = becomes; mine = at_key key ids own; others = λ k other. at_other key ids own k other } in
      record {
        live = live;
        honest = honest;
        orderly = subst IsTrue (sym (goes.orderly live)) made.orderly;
        header = subst (λ u. IsHeader u (bytes_of b)) (sym goes.version) (header_stays 68 (omega arith) (bytes_of a) (bytes_of b) made.header.whole longer front (omega arith) v made.header);
        directory_at = u32_same 68 (omega arith) (bytes_of a) (bytes_of b) made.header.whole longer front 48 (omega arith) (inr (omega arith)) ∙ made.directory_at;
        mini_fat_at = u32_same 68 (omega arith) (bytes_of a) (bytes_of b) made.header.whole longer front 60 (omega arith) (inr (omega arith)) ∙ made.mini_fat_at;
        owned = owned_changed S (seen_of a) (seen_of b) own later key [] ids more made.owned moves;
        holds = λ k. ⊎_elim
            (λ same. subst (λ n. joined (version_of b) (bytes_of b) (later n) ≡ with_list key content bytes n) (sym same.1)
            (ap (joined (version_of b) (bytes_of b)) (at_key key ids own) ∙ holds ∙ sym (at_key key content bytes)))
            (λ other. ap (joined (version_of b) (bytes_of b)) (at_other key ids own k other.1) ∙ ap (λ u. joined u (bytes_of b) (own k)) goes.version
            ∙ (other_left S (seen_of a) (seen_of b) own later key [] ids more made.owned moves k other.1).bytes ∙ made.holds k ∙ sym (at_other key content bytes k other.1))
            (eqb_tells k key);
        whole = λ k. subst (λ u. AreWhole u (bytes_of b) (later k)) (sym goes.version) (⊎_elim
            (λ same. subst (λ n. AreWhole v (bytes_of b) (later n)) (sym same.1)
            (subst (AreWhole v (bytes_of b)) (sym (at_key key ids own ∙ all)) (both_whole v (bytes_of b) (own key) more (whole_still v (own key) (bytes_of a) (bytes_of b) longer (made.whole key)) whole)))
            (λ other. subst (AreWhole v (bytes_of b)) (sym (at_other key ids own k other.1)) (whole_still v (own k) (bytes_of a) (bytes_of b) longer (made.whole k)))
            (eqb_tells k key));
        tight = tight_then S [] (own key ++ more) key (seen_of a) (seen_of b) own later made.tight becomes.leaves
            (λ n loose. subst (λ l. IsNotIn l n) (at_key key ids own ∙ all) loose)
            (λ n loose. none_first (own key) more n (subst (λ l. IsNotIn l n) (at_key key ids own ∙ all) loose))
            (λ k other. at_other key ids own k other);
      }

  -- a chain was copied to an owner's
  pub made_more : (d m : ℕ) (a b : Allocator F g) (before links : Links) (own bytes : ℕ → List ℕ) (key : ℕ) (content : List ℕ) → IsFileInProgress d m a own bytes → own key ≡ ids_of before → KeepsFileInvariants a b → has_failed_here b ≡ false
      → CopiesChain content a b before links → IsFileInProgress d m b (with_list key (ids_of links) own) (with_list key content bytes)
  made_more d m a b before links own bytes key content made mine goes live copied =
      made_then d m a b own bytes key copied.more (ids_of links) content made goes live copied.chain.has.honest
      (subst (λ l. ReplacesChain (sector (version_of a)) [] l copied.more (ids_of links) (seen_of a) (seen_of b)) (sym mine) copied.becomes) (copied.sectors ∙ ap (λ l. l ++ copied.more) (sym mine)) copied.content_is copied.whole

  -- an owner's bytes were written over
  pub made_over : (d m : ℕ) (a b : Allocator F g) (links : Links) (own bytes : ℕ → List ℕ) (key at : ℕ) (xs : List ℕ) → IsFileInProgress d m a own bytes → own key ≡ ids_of links → KeepsFileInvariants a b → has_failed_here b ≡ false
      → Overwrites at xs a b links → IsFileInProgress d m b (with_list key (ids_of links) own) (with_list key (overwritten (bytes key) at xs) bytes)
  made_over d m a b links own bytes key at xs made mine goes live over =
      made_then d m a b own bytes key [] (ids_of links) (overwritten (bytes key) at xs) made goes live over.chain.has.honest
      (subst (λ l. ReplacesChain (sector (version_of a)) [] l [] (ids_of links) (seen_of a) (seen_of b)) (sym mine) over.becomes) (sym mine ∙ sym (append-nil (own key)))
      (over.content ∙ ap (λ l. overwritten l at xs) (ap (joined (version_of a) (bytes_of a)) (sym mine) ∙ made.holds key)) tt
