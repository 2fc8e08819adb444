-- Numbers of the mini FAT that change one after the other.
use Rattle.std.proofs.Common.{◌≡◌, ℕ, ◌*◌, ◌<◌, ◌^◌, List, [], ◌∷◌, length, get_or, refl, ap, sym, subst, ◌∙◌, arith}
use Rattle.std.specs.Int.{w32, to_le_bytes}
use Rattle.std.proofs.Math.ListN.{set}
use Rattle.cfb_medium.specs.Bytes.{overwritten}
use Rattle.cfb_medium.specs.Numbers.{numbers}
use Rattle.cfb_medium.specs.Versions.{sector_len}
use Rattle.cfb_medium.specs.declared.medium.ReadMedium.{Ghosts}
use Rattle.cfb_sectors.specs.Sectors.{fat_in, sector}
use Rattle.cfb_chains.specs.Changes.{AreSubsetOf, DifferOnlyAt}
use Rattle.cfb_chains.specs.LinkViews.{ids_of, links_version}
use Rattle.cfb_chains.specs.Owned.{ReplacesChain}
use Rattle.cfb_chains.specs.declared.links.Links.{Links}
use Rattle.cfb_chains.proofs.ChainGrowing.{among_more}
use Rattle.cfb_chains.proofs.ChainWriting.{length-joined}
use Rattle.cfb_fat.specs.Seeing.{seen_of}
use Rattle.cfb_fat.specs.Tables.{bytes_of, version_of}
use Rattle.cfb_fat.specs.declared.allocator.Allocator.{Allocator}
use Rattle.cfb_chain_io.specs.ChainEffects.{content_of, len_of, HasDataChain, Overwrites}
use Rattle.cfb_chain_io.proofs.Owning.{becomes_then}
use Rattle.cfb_chain_io.proofs.WrittenParts.{nothing_over}
use Rattle.cfb_mini.specs.NumberWrites.{Enters, LiesSo}
use Rattle.cfb_mini.specs.NumberViews.{numbers_of}
use Rattle.cfb_mini.specs.declared.mini_fat.MiniFat.{MiniFat}
use Rattle.cfb_mini.proofs.MiniNumbers.{differ_set, numbers_set}

-- a number that stands in a list is among it
pub one_among : (ids : List ℕ) (i : ℕ) → i < length ids → AreSubsetOf ids (get_or ids i 0 ∷ [])
one_among ids i below n none k inside same =
    let first : k ≡ 0 = omega (arith, inside) in
    none i below (sym (ap (λ j. get_or (get_or ids i 0 ∷ []) j 0) first) ∙ same)

module _ {F : Type 0} {g : Ghosts F} where
  -- a chain's bytes are as many as its links say
  pub content_len : (it : Allocator F g) (links : Links) → links_version links ≡ version_of it → length (content_of it links) ≡ len_of links
  content_len it links same = length-joined (version_of it) (bytes_of it) (ids_of links) ∙ ap (λ v. length (ids_of links) * sector_len v) (sym same)

  pub enters_none : (minis : List ℕ) (a : Allocator F g) (mini : MiniFat) → HasDataChain a mini.links → Enters minis a a mini mini
  enters_none minis a mini chain = record {
    chain = chain;
    becomes = (nothing_over 0 a mini.links chain).becomes;
    differ = record { size = refl; others = λ n none. refl };
    same = λ was. was;
  }

  -- one number was written
  pub enters_one : (a b : Allocator F g) (before after : MiniFat) (n x : ℕ) (bytes : List ℕ) → n < length (numbers_of before.numbers) → x < 2 ^ 32 → bytes ≡ to_le_bytes w32 x
      → numbers_of after.numbers ≡ set (numbers_of before.numbers) n x → HasDataChain a before.links → Overwrites (4 * n) bytes a b before.links → Enters (n ∷ []) a b before after
  enters_one a b before after n x bytes below small is set_so chain over =
      let whole = before.whole in
      let long = content_len a before.links chain.has.version in
      record {
        chain = over.chain;
        becomes = over.becomes;
        differ = differ_set (numbers_of before.numbers) (numbers_of after.numbers) n x set_so;
        same = λ was. set_so ∙ ap (λ l. set l n x) was ∙ sym (numbers_set (content_of a before.links) n x (omega (arith, whole, long, below)) small)
            ∙ ap numbers (sym (over.content ∙ ap (overwritten (content_of a before.links) (4 * n)) is));
      }

  pub enters_then : (minis more : List ℕ) (a m b : Allocator F g) (x y z : MiniFat) → AreSubsetOf minis more → version_of m ≡ version_of a → LiesSo x y → Enters minis a m x y → Enters more m b y z → Enters minis a b x z
  enters_then minis more a m b x y z among version lies h k =
      let ids = ids_of x.links in
      let same : ids_of y.links ≡ ids = ap ids_of lies.links in
      let step : ReplacesChain (sector (version_of a)) [] ids [] ids (seen_of m) (seen_of b) =
      subst (λ v. ReplacesChain (sector v) [] ids [] ids (seen_of m) (seen_of b)) version (subst (λ l. ReplacesChain (sector (version_of m)) [] l [] l (seen_of m) (seen_of b)) same k.becomes) in
      record {
        chain = subst (λ l. HasDataChain b l) lies.links k.chain;
        becomes = becomes_then (sector (version_of a)) ids [] ids ids (seen_of a) (seen_of m) (seen_of b) h.becomes (among_more ids [] ids (λ n none. none)) step tt;
        differ = record { size = k.differ.size ∙ h.differ.size; others = λ n none. k.differ.others n (among n none) ∙ h.differ.others n none };
        same = λ was. k.same (h.same was ∙ ap (fat_in (version_of m) (bytes_of m)) (sym same)) ∙ ap (fat_in (version_of b) (bytes_of b)) same;
      }

  -- a change of fewer numbers is one of more
  pub enters_wider : (minis more : List ℕ) (a b : Allocator F g) (x y : MiniFat) → AreSubsetOf minis more → Enters more a b x y → Enters minis a b x y
  enters_wider minis more a b x y among h = record { chain = h.chain; becomes = h.becomes; differ = record { size = h.differ.size; others = λ n none. h.differ.others n (among n none) }; same = h.same }

  -- a change is one of the same mini FAT, whose hint may be another
  pub enters_from : (minis : List ℕ) (a b : Allocator F g) (x from y : MiniFat) → from.links ≡ x.links → numbers_of from.numbers ≡ numbers_of x.numbers → Enters minis a b from y → Enters minis a b x y
  enters_from minis a b x from y links numbers h = record {
    chain = subst (HasDataChain b) links h.chain;
    becomes = subst (λ l. ReplacesChain (sector (version_of a)) [] (ids_of l) [] (ids_of l) (seen_of a) (seen_of b)) links h.becomes;
    differ = subst (λ t. DifferOnlyAt minis t (numbers_of y.numbers)) numbers h.differ;
    same = λ was. h.same (numbers ∙ was ∙ ap (λ l. fat_in (version_of a) (bytes_of a) (ids_of l)) (sym links)) ∙ ap (λ l. fat_in (version_of b) (bytes_of b) (ids_of l)) links;
  }
