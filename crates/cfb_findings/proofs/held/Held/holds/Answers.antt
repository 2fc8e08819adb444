use Rattle.std.proofs.Common.{◌≡◌, List, ℕ, refl, sym, subst, arith}
use Rattle.cfb_findings.specs.Links.{AreEnds, HasChainFrom}
use Rattle.cfb_findings.specs.Rooms.{of_part}
use Rattle.cfb_findings.proofs.held.Held.holds.Goals as goal

pub returns-then-not-has_chain : goal.returns-then-not-has_chain
returns-then-not-has_chain c = λ links piece place file_len tells. (
  (λ wrong. absurd (cc)),
  (λ held. let wrong = (c.if-not-has_chain.ensures links (subst (AreEnds links) (sym c.deref.ensures.value) tells.ends)).1 (held.0, held.1) in absurd (cc)),
)

pub returns-then-size-room : goal.returns-then-size-room
returns-then-size-room c = λ links piece place file_len tells.
    let is : c.of_part-room.result ≡ of_part c.args.self.now.rooms.items c.args.start = subst (λ (rs : List ℕ). c.of_part-room.result ≡ of_part rs c.args.start) c.deref-2.ensures.value c.of_part-room.ensures in (
      (λ wrong. absurd (cc)),
      (λ held. let low = (tells.rooms c.args.start held.0 held.1 c.args.size).1 held.2 in absurd (omega (arith, low, is, c.if-size-room.true))),
    )

pub returns : goal.returns
returns c = λ links piece place file_len tells.
    let is : c.of_part-room.result ≡ of_part c.args.self.now.rooms.items c.args.start = subst (λ (rs : List ℕ). c.of_part-room.result ≡ of_part rs c.args.start) c.deref-2.ensures.value c.of_part-room.ensures in
    let has : HasChainFrom links c.args.start = (c.if-not-has_chain.ensures links (subst (AreEnds links) (sym c.deref.ensures.value) tells.ends)).0 refl in (
      (λ _. (has.0, has.1, (tells.rooms c.args.start has.0 has.1 c.args.size).0 (omega (arith, is, c.if-size-room.false)))),
      (λ held. refl),
    )
