use Rattle.std.proofs.Common.{◌≡◌, ◌∙◌, ◌*◌, ◌≤◌, List, ℕ, length, map, sym, ap, subst, arith}
use Rattle.std.specs.List.{range_with_len}
use Rattle.cfb_findings.specs.Links.{behind}
use Rattle.cfb_findings.specs.Rooms.{more_room, of_part}
use Rattle.cfb_findings.proofs.Linking.{linked_twice}
use Rattle.cfb_findings.proofs.Rooming.{are_rooms, room_most, room_once, rooms_listed, rooms_long}
use Rattle.cfb_findings.proofs.rooms.rooms_of.Goals as goal

pub loop-reach-init : goal.loop-reach-init
loop-reach-init c =
    let rooms_are = c.in_ok-rooms.ensures.items in
    let jumps_are = c.in_ok-jumps.ensures.items in record {
      some = omega arith;
      small = omega arith;
      full = omega arith;
      low = omega (arith, c.requires.small);
      long = ap length rooms_are;
      followed = λ n. ap (λ (js : List ℕ). behind js n) jumps_are;
      rooms = λ n. ap (λ (rs : List ℕ). of_part rs n) rooms_are ∙ room_once c.args.piece c.args.avail.now c.args.links.now n;
    }

pub more_rooms-requires : goal.more_rooms-requires
more_rooms-requires c =
    let k = c.loop-reach.invariant in record {
      few = omega (arith, ap length c.deref.ensures.value, k.long, c.requires.few);
      most = λ n. subst (λ (rs : List ℕ). of_part rs n ≤ c.loop-reach.full) (sym c.deref.ensures.value)
          (omega (arith, k.rooms n, k.full, room_most c.args.piece c.args.avail.now c.args.links.now c.requires.most c.loop-reach.reach n));
      small = omega (arith, k.low, k.small);
    }

pub loop-reach-preserved : goal.loop-reach-preserved
loop-reach-preserved c =
    let k = c.loop-reach.invariant in
    let old = c.loop-reach.rooms.items in
    let jumps = c.loop-reach.jumps.items in
    let new = c.in_ok-rooms-2.rooms.items in
    let more = c.in_ok-jumps-2.jumps.items in
    let rooms_are : new ≡ map (more_room old jumps (c.loop-reach.reach * c.args.piece)) (range_with_len 0 (length old)) =
    c.in_ok-rooms-2.ensures.more
    ∙ ap (λ (rs : List ℕ). map (more_room rs c.deref-in-loop-reach.result.now c.loop-reach.full) (range_with_len 0 (length rs))) c.deref.ensures.value
    ∙ ap (λ (js : List ℕ). map (more_room old js c.loop-reach.full) (range_with_len 0 (length old))) c.deref-in-loop-reach.ensures.value
    ∙ ap (λ (f : ℕ). map (more_room old jumps f) (range_with_len 0 (length old))) k.full in
    let jumps_are : more ≡ map (behind jumps) jumps = c.in_ok-jumps-2.ensures.twice ∙ ap (λ (js : List ℕ). map (behind js) js) c.deref-in-loop-reach-2.ensures.value in
    record {
      some = omega (arith, k.some);
      small = omega (arith, c.loop-reach-test.true, c.requires.few, c.requires.all);
      full = omega (arith, k.full);
      low = omega (arith, k.low);
      long = ap length rooms_are ∙ rooms_long old jumps (c.loop-reach.reach * c.args.piece) ∙ k.long;
      followed = λ n. ap (λ (js : List ℕ). behind js n) jumps_are ∙ linked_twice c.args.links.now jumps c.loop-reach.reach k.followed n;
      rooms = λ n. ap (λ (rs : List ℕ). of_part rs n) rooms_are
          ∙ rooms_listed c.args.piece c.args.avail.now c.args.links.now c.requires.some c.requires.most c.loop-reach.reach old jumps k.some k.long k.rooms k.followed n;
    }

pub returns-clause-rooms : goal.returns-clause-rooms
returns-clause-rooms c = λ place file_len told.
    are_rooms c.args.piece c.args.avail.now c.args.links.now place file_len c.requires.some told c.loop-reach.reach c.loop-reach.rooms.items (omega (arith, c.loop-reach-test.false)) c.loop-reach.invariant.rooms
