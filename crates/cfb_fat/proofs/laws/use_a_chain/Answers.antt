use Rattle.std.proofs.Common.{◌+◌, ◌≤◌, [], ◌∷◌, ◌++◌, length, arith, refl, sym, ap, subst, ◌∙◌, append_assoc, IsTrue}
use Rattle.cfb_medium.specs.Versions.{sector_len}
use Rattle.cfb_sectors.specs.Sectors.{sector, Chain as IsChain}
use Rattle.cfb_sectors.proofs.OneChain.{chain_unique}
use Rattle.cfb_chains.specs.Owned.{ChangesAtMost}
use Rattle.cfb_fat.specs.Seeing.{seen_of}
use Rattle.cfb_fat.specs.Tables.{fat_of, version_of}
use Rattle.cfb_fat.proofs.GrowthSteps.{on_ok_map}
use Rattle.cfb_fat.proofs.Using.{among_back, among_front, among_one, among_same, among_two, ended, held_first, held_last, held_then, one_last, spare_of}
use Rattle.cfb_fat.proofs.laws.use_a_chain.Goals as goal

pub returns-clause-stays : goal.returns-clause-stays
unfolding seen_of
returns-clause-stays g c =
    on_ok_map c.free_chain.result _ _ c.free_chain.ensures.leaves (λ last honest fits own owned k.
    let s0 = c.args.allocator.now in
    let s1 = c.begin_chain.new.self in
    let s2 = c.write_contiguous.new.self in
    let s3 = c.extend_chain.new.self in
    let s4 = c.write_contiguous-2.new.self in
    let s5 = c.free_chain_after.new.self in
    let s6 = c.free_chain.new.self in
    let v = version_of s0 in
    let n = c.in_ok-start.start in
    let m = c.in_ok-next.next in
    let begun = c.in_ok-start.ensures in
    let wrote = c.in_ok-write_contiguous.ensures in
    let longer = c.in_ok-next.ensures in
    let more = c.in_ok-write_contiguous-2.ensures in
    let cut = c.in_ok-free_chain_after.ensures in
    let v1 = begun.takes.grows.version in
    let v2 = wrote.writes.sectors.0.version ∙ v1 in
    let v3 = longer.extends.4.grows.version ∙ v2 in
    let v4 = more.writes.sectors.0.version ∙ v3 in
    let v5 = cut.frees.2.version ∙ v4 in
    let start : 0 + length c.args.bytes.now ≤ sector_len v = omega (arith, fits) in
    let fits1 = subst (λ u. 0 + length c.args.bytes.now ≤ sector_len u) (sym v1) start in
    let fits3 = subst (λ u. 0 + length c.args.bytes.now ≤ sector_len u) (sym v3) start in
    let h1 = subst IsTrue (sym begun.takes.grows.honest) honest in
    let h2 = subst IsTrue (sym wrote.writes.sectors.0.honest) h1 in
    let h3 = subst IsTrue (sym longer.extends.4.grows.honest) h2 in
    let h4 = subst IsTrue (sym more.writes.sectors.0.honest) h3 in
    let h5 = subst IsTrue (sym cut.frees.2.honest) h4 in
    let chain2 : IsChain (fat_of s2) n (n ∷ []) = subst (λ l. IsChain l n (n ∷ [])) (sym wrote.writes.fat) begun.chain in
    let ext = longer.extends in
    let one = chain_unique (fat_of s2) n (ext.0 ++ ext.1 ∷ []) (n ∷ []) ext.2 chain2 in
    let chain3 : IsChain (fat_of s3) n (n ∷ m ∷ []) = subst (IsChain (fat_of s3) n) (sym (append_assoc ext.0 (ext.1 ∷ []) (m ∷ [])) ∙ ap (λ l. l ++ m ∷ []) one) ext.3 in
    let chain4 : IsChain (fat_of s4) n (n ∷ m ∷ []) = subst (λ l. IsChain l n (n ∷ m ∷ [])) (sym more.writes.fat) chain3 in
    let chain5 : IsChain (fat_of s5) n (n ∷ []) = ended (fat_of s4) (fat_of s5) n (m ∷ []) chain4 (cut.frees.2.fat cut.error_contract.live.2).size cut.frees.1.1 in
    let at3 = one_last longer.leaves.0 longer.leaves.1 n (chain_unique (fat_of s2) n (longer.leaves.0 ++ longer.leaves.1 ∷ []) (n ∷ []) longer.leaves.2 chain2) in
    let at5 = chain_unique (fat_of s4) n (n ∷ cut.leaves.0) (n ∷ m ∷ []) cut.leaves.1 chain4 in
    let at6 = chain_unique (fat_of s5) n last.0 (n ∷ []) last.1 chain5 in
    let first = held_first (sector v) (seen_of s0) own owned in
    let held1 = held_then (sector v) (seen_of s0) own [] (n ∷ []) (n ∷ []) (n ∷ n ∷ []) (seen_of s0) (seen_of s1) first (begun.leaves honest) (among_one n) (begun.takes.free begun.error_contract.live.2) (spare_of s1 v n v1 begun.fresh.writable, tt) begun.chain (among_same (n ∷ []) (n ∷ []) refl) in
    let held2 = held_then (sector v) (seen_of s0) own (n ∷ []) (n ∷ []) [] (n ∷ []) (seen_of s1) (seen_of s2) held1
    (subst (λ u. ChangesAtMost (sector u) [] (n ∷ []) (seen_of s1) (seen_of s2)) v1 (wrote.leaves fits1 h1)) (among_same (n ∷ []) (n ∷ []) refl) tt tt chain2 (among_same (n ∷ []) (n ∷ []) refl) in
    let held3 = held_then (sector v) (seen_of s0) own (n ∷ []) (n ∷ m ∷ []) (m ∷ []) (m ∷ longer.leaves.1 ∷ m ∷ []) (seen_of s2) (seen_of s3) held2
    (subst (λ u. ChangesAtMost (sector u) [] (m ∷ longer.leaves.1 ∷ m ∷ []) (seen_of s2) (seen_of s3)) v2 (longer.leaves.3 h2)) (among_two n m longer.leaves.1 at3) (ext.4.free longer.error_contract.live.2) (spare_of s3 (version_of s2) m ext.4.grows.version longer.fresh.writable, tt) chain3 (among_same (n ∷ m ∷ []) (n ∷ m ∷ []) refl) in
    let held4 = held_then (sector v) (seen_of s0) own (n ∷ m ∷ []) (n ∷ m ∷ []) [] (m ∷ []) (seen_of s3) (seen_of s4) held3
    (subst (λ u. ChangesAtMost (sector u) [] (m ∷ []) (seen_of s3) (seen_of s4)) v3 (more.leaves fits3 h3)) (among_back n m) tt tt chain4 (among_same (n ∷ m ∷ []) (n ∷ m ∷ []) refl) in
    let held5 = held_then (sector v) (seen_of s0) own (n ∷ m ∷ []) (n ∷ []) [] (n ∷ cut.leaves.0) (seen_of s4) (seen_of s5) held4
    (subst (λ u. ChangesAtMost (sector u) [] (n ∷ cut.leaves.0) (seen_of s4) (seen_of s5)) v4 (cut.leaves.2 h4)) (among_same (n ∷ m ∷ []) (n ∷ cut.leaves.0) at5) tt tt chain5 (among_front n m) in
    let held6 = held_then (sector v) (seen_of s0) own (n ∷ []) [] [] last.0 (seen_of s5) (seen_of s6) held5
    (subst (λ u. ChangesAtMost (sector u) [] last.0 (seen_of s5) (seen_of s6)) v5 (last.2 h5)) (among_same (n ∷ []) last.0 at6) tt tt refl (λ x none j below same. absurd (omega (arith, below))) in
    held_last (sector v) (seen_of s0) own (seen_of s6) [] held6 k)
