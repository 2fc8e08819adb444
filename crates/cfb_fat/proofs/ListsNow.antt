-- What header and DIFAT list is a fact, and so are its stop and how many "free" entries follow.
use Rattle.std.proofs.Common.{◌≡◌, ℕ, ◌-◌, List, [], ◌∷◌, ◌++◌, length, replicate, inl, inr, ap, sym, subst, ◌∙◌, arith, ⊎_elim, length-append}
use Rattle.std.proofs.lemmas.Bool.Decides.{eqb_tells}
use Rattle.std.proofs.lemmas.List.{length-replicate}
use Rattle.std.proofs.Props.{props}
use mathlib.Core.Logic.{∥∥₁_elim}
use Rattle.cfb_medium.specs.Numbers.{u32_at}
use Rattle.cfb_medium.specs.Versions.{sector_len}
use Rattle.cfb_medium.specs.declared.version.Version.{Version}
use Rattle.cfb_sectors.specs.Header.{first_difat_sector}
use Rattle.cfb_sectors.specs.Sectors.{difat, end_of_chain, free, sector, DifatChain}
use Rattle.cfb_fat.specs.Listed.{stop_behind, IsStop, Lists}

module _ (v : Version) (b : List ℕ) where
  chain_is_fact : (start : ℕ) (ds : List ℕ) (stop : ℕ) → IsProp (DifatChain v b start ds stop)
  chain_is_fact start [] stop = hlevel props
  chain_is_fact start (n ∷ ds) stop = let rest = chain_is_fact (u32_at (sector v b start) (sector_len v - 4)) ds stop in hlevel (props, rest)

  pub stop_is : (start : ℕ) (ds : List ℕ) (stop : ℕ) → DifatChain v b start ds stop → stop ≡ stop_behind v b start ds
  stop_is start [] stop is = sym is
  stop_is start (n ∷ ds) stop (is, there, rest) = stop_is (u32_at (sector v b start) (sector_len v - 4)) ds stop rest

  module _ (ds fs : List ℕ) (listed : ∥ Lists v b ds fs ∥₁) where
    pub stops_now : IsStop (stop_behind v b (first_difat_sector b) ds)
    stops_now = ⊎_elim (λ ends. inl ends.1) (λ goes. inr (∥∥₁_elim listed (hlevel props) (λ h.
        let is : h.stop ≡ stop_behind v b (first_difat_sector b) ds = stop_is (first_difat_sector b) ds h.stop h.chain in
        ⊎_elim (λ ends. absurd (goes.1 (sym is ∙ ends))) (λ frees. sym is ∙ frees) h.stops)))
        (eqb_tells (stop_behind v b (first_difat_sector b) ds) end_of_chain)

    pub chain_now : DifatChain v b (first_difat_sector b) ds (stop_behind v b (first_difat_sector b) ds)
    chain_now = ∥∥₁_elim listed (chain_is_fact (first_difat_sector b) ds (stop_behind v b (first_difat_sector b) ds)) (λ h.
        subst (DifatChain v b (first_difat_sector b) ds) (stop_is (first_difat_sector b) ds h.stop h.chain) h.chain)

    pub entries_now : difat v b ds ≡ fs ++ replicate (length (difat v b ds) - length fs) free
    entries_now = ∥∥₁_elim listed (hlevel props) (λ h.
        let sizes = ap length h.entries ∙ length-append fs (replicate h.unused free) in
        let many : length (replicate h.unused free) ≡ h.unused = length-replicate h.unused free in
        let rest : h.unused ≡ length (difat v b ds) - length fs = omega (arith, sizes, many) in
        h.entries ∙ ap (λ n. fs ++ replicate n free) rest)

    pub lists_now : Lists v b ds fs
    lists_now = record {
      stop = stop_behind v b (first_difat_sector b) ds;
      stops = stops_now;
      chain = chain_now;
      unused = length (difat v b ds) - length fs;
      entries = entries_now;
    }
