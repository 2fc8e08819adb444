use Rattle.std.proofs.Common.{[], length, get_or, refl, ap, inl, inr, sym, ◌∙◌, arith, ⊎_elim}
use Rattle.cfb_sectors.specs.Held.{IsJustifiedByMedium}
use Rattle.cfb_sectors.specs.Sectors.{end_of_chain, free}
use Rattle.std.proofs.lemmas.Option.{slice_get-get_or, slice_get_within, get_or_from_slice_get}
use Rattle.std.proofs.lemmas.List.{get_or-set_same, length-set}
use Rattle.std.specs.Prelude.{Some}
use Rattle.cfb_chains.proofs.Beside.{none_first, none_second}
use Rattle.cfb_fat.specs.Calls.{EndsBehind, AllocatesAndFills, AllocatesOneSector}
use Rattle.cfb_fat.specs.Growing.{GrowsFat}
use Rattle.cfb_fat.specs.Tables.{difat_sectors_of, fat_sectors_of}
use Rattle.cfb_chains.specs.Changes.{IsNotIn}
use Rattle.std.proofs.lemmas.Bool.Decides.{leb_tells}
use Rattle.cfb_fat.proofs.EntryChanges.{cause_since}
use Rattle.cfb_fat.proofs.GrowthSteps.{chain_one, err_both, err_map, grows_again, marked_appended, occupies_after, ok_two, on_err_map}
use Rattle.cfb_fat.proofs.Places.{memory_for_one}
use Rattle.cfb_fat.proofs.Sparing.{exit_spends}
use Rattle.std.proofs.lemmas.Result.{IfErr-weaker}
use Rattle.cfb_fat_runs.specs.Tables.{entries_of}
use Rattle.cfb_fat.proofs.allocator.Allocator.take_reserved.Goals as goal

pub returns-clause-tries : goal.returns-clause-tries
returns-clause-tries g c =
    let room = c.in_ok-make_room.ensures in
    let did = c.append.ensures.error_contract in
    record {
      live = did.live;
      cause = err_map c.append.result (IsJustifiedByMedium c.make_room.new.self.sectors c.append.new.self.sectors) (IsJustifiedByMedium c.args.self.now.sectors c.append.new.self.sectors) did.cause
          (λ e cause. cause_since c.args.self.now.sectors c.make_room.new.self.sectors c.append.new.self.sectors e room.grows.continues (room.tries.live ∙ sym c.requires.live) cause);
      fault = err_both c.append.result _ _ _ did.fault did.err (λ e is failed. inl (is, inl failed));
    }

pub returns-clause-none : goal.returns-clause-none
returns-clause-none g c =
    on_err_map c.append.result (GrowsFat [] [] c.make_room.new.self c.append.new.self) _ c.append.ensures.none
    (λ grows. grows_again c.args.self.now c.make_room.new.self c.append.new.self c.in_ok-make_room.ensures.grows grows)

pub append-requires-clause-crowded : goal.append-requires-clause-crowded
append-requires-clause-crowded g c k below freed no_ds no_fs =
    let it = c.args.self.now in
    let mid = c.make_room.new.self in
    let room = c.in_ok-make_room.ensures in
    let still = room.grows.still room.tries.live k in
    let none : IsNotIn [] k = λ i inside same. omega (arith, inside) in
    ⊎_elim
    (λ past. ⊎_elim (λ told. omega (arith, told.1, freed)) (λ told. omega (arith, told.1, freed)) (room.added k past.1 below none none))
    (λ front. c.in_default.ensures k front.1 (sym ((room.grows.fat room.tries.live).others k front.1 none) ∙ freed) (still.0 no_ds) (still.1 no_fs))
    (leb_tells (length (entries_of it.fat)) k)

pub returns-in-Some-clause-spends : goal.returns-in-Some-clause-spends
returns-in-Some-clause-spends g c = λ n memory. (c.in_ok-take_free.ensures.spends 0 n (memory_for_one c.args.self.now n memory), tt)

pub returns-in_err-make_room-clause-spends : goal.returns-in_err-make_room-clause-spends
returns-in_err-make_room-clause-spends g c = λ n memory. exit_spends c.from_residual-in_err-make_room.result c.in_err-make_room.field-0.0 _ _ c.from_residual-in_err-make_room.ensures.1 (c.in_err-make_room.ensures.spends n memory).1

pub returns-clause-spends : goal.returns-clause-spends
returns-clause-spends g c = λ n memory. (c.append.ensures.spends n (c.in_ok-make_room.ensures.spends n memory).0, IfErr-weaker c.append.result _ _ (λ e failed. inl failed) c.append.ensures.error_contract.err)

pub returns-clause-takes : goal.returns-clause-takes
returns-clause-takes g c =
    let it = c.args.self.now in
    let mid = c.make_room.new.self in
    let now = c.append.new.self in
    let room = c.in_ok-make_room.ensures in
    ok_two c.append.result (EndsBehind mid now) (AllocatesAndFills c.args.init mid now) (AllocatesOneSector c.args.init it now) c.append.ensures.ends c.append.ensures.occupies
    (λ n ends occupies. record {
      free = inr (let longer = (room.grows.fat room.tries.live).size in omega (arith, longer, ends.number));
      chain = chain_one (entries_of mid.fat) (entries_of now.fat) n ends.fat ends.number room.place.few;
      occupies = occupies_after c.args.init it mid now n room.grows occupies;
      appended = λ behind k freed none. c.in_default.ensures k (slice_get_within (entries_of it.fat) k free freed) (get_or_from_slice_get (entries_of it.fat) k free 0 freed)
          (none_first it.difat_sectors.items it.fat_sectors.items k none) (none_second it.difat_sectors.items it.fat_sectors.items k none);
      behind = marked_appended (entries_of it.fat) (entries_of mid.fat) (entries_of now.fat) (difat_sectors_of mid) (fat_sectors_of mid) (difat_sectors_of now) (fat_sectors_of now) n end_of_chain ends.number ends.fat ends.tables.0 ends.tables.1 room.added;
    })

pub returns-in-Some-clause-takes : goal.returns-in-Some-clause-takes
returns-in-Some-clause-takes g c =
    let it = c.args.self.now in
    let n = c.in-Some.sector_id in
    let now = c.take_free.new.self in
    let did = c.in_ok-take_free.ensures in
    let below = slice_get_within (entries_of it.fat) n free c.in-Some.ensures.0 in
    let size = ap length did.fat ∙ length-set (entries_of it.fat) n end_of_chain in
    record {
      free = inl c.in-Some.ensures.0;
      chain = (refl, omega (arith, below, it.inside c.requires.live, it.sectors.few), end_of_chain, slice_get-get_or (entries_of now.fat) n 0 (omega (arith, size, below)) ∙ ap Some (ap (λ l. get_or l n 0) did.fat ∙ get_or-set_same (entries_of it.fat) n end_of_chain 0 below), refl);
      occupies = did.occupies;
      appended = λ behind. absurd (omega (arith, behind, below));
      behind = λ k past inside none unset. absurd (omega (arith, past, inside, size));
    }
