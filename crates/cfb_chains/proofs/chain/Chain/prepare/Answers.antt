use Rattle.std.proofs.Common.{◌≡◌, ◌≤◌, ◌∙◌, ◌∷◌, ◌++◌, [], length, sym, subst, ap, arith, ⊎_elim, Err}
use Rattle.std.proofs.lemmas.Bool.Decides.{leb_tells}
use Rattle.cfb_medium.specs.declared.error.Error.TheVariants.{InvalidData}
use Rattle.cfb_sectors.specs.Sectors.{end_of_chain, Chain as IsChain}
use Rattle.cfb_chains.specs.ChainViews.{holder_of, sectors_of}
use Rattle.cfb_chains.proofs.Ending.{no_sector, with_last}
use Rattle.cfb_chains.proofs.chain.Chain.prepare.Goals as goal
use Rattle.cfb_chains.proofs.chain.Chain.prepare.Goals.{else-last-via-then-last+else-num_sectors-gt0, else-last-via-else-last}

pub returns-then-num_sectors-gt0-clause-refused_only_if : goal.returns-then-num_sectors-gt0-clause-refused_only_if
returns-then-num_sectors-gt0-clause-refused_only_if g c = λ is orderly ends.
    let some : 1 ≤ length (sectors_of c.args.self.now) = omega (arith, c.if-num_sectors-gt0.true, c.num_sectors.ensures) in
    let end = ends some in
    no_sector _ end.0 end.1 _ (sym (c.last_sector_id-last.ensures.some some) ∙ c.if-last.true) end.2

pub returns-in-Err-clause-refused_only_if : goal.returns-in-Err-clause-refused_only_if
returns-in-Err-clause-refused_only_if g c = λ is orderly ends.
    let error : c.in-Err.error ≡ InvalidData = cc in
    let refused = c.in-Err.ensures.refused_only_if (ap Err error) orderly in
    ⊎_elim
    (λ some.
    let end = ends some.1 in
    refused (end.0 ++ end.1 ∷ []) (subst (λ n. IsChain (g.H.FreesChains.fat (holder_of c.args.self.now)) n (end.0 ++ end.1 ∷ [])) (sym (c.last_sector_id-last.ensures.some some.1)) end.2))
    (λ none. refused [] (c.last_sector_id-last.ensures.none (omega (arith, none.1))))
    (leb_tells 1 (length (sectors_of c.args.self.now)))

pub returns-clause-ends : goal.returns-clause-ends
returns-clause-ends g c = λ some.
    let table = g.H.FreesChains.fat (holder_of c.args.self.now) in
    let chain = c.in_default.ensures.chain in
    let sector : c.last_sector_id-last.result ≡ end_of_chain → ⊥ = elim c.else-last.branch [
      | else-last-via-then-last+else-num_sectors-gt0 w ↦ λ is. omega (arith, w.if-num_sectors-gt0.false, w.num_sectors.ensures, some)
      | else-last-via-else-last w ↦ w.if-last.false
    ] in
    let end = with_last table chain.0 c.last_sector_id-last.result sector chain.1 in
    (end.0, end.1, subst (λ n. IsChain table n (end.0 ++ end.1 ∷ [])) (c.last_sector_id-last.ensures.some some) end.2)
