use Rattle.std.proofs.Common.{rules, ◌≡◌, ◌≤◌, ◌<◌, ◌+◌, ◌-◌, ◌*◌, ◌^◌, ◌&&◌, ◌++◌, ℕ, Bool, true, false, [], ◌∷◌, List, IsTrue, length, take, drop, get_or, is_some, nat_lt, refl, sym, subst, ap, add-one, ◌∙◌, arith}
use Rattle.std.proofs.lemmas.List.{length_push}
use Rattle.cfb_medium.specs.Bytes.{overwritten}
use Rattle.staged.specs.Files.{Files}
use Rattle.staged.specs.Device.{times_up, counted_up}
use Rattle.staged.specs.Held.{listed}
use Rattle.staged.specs.Log.{has_runs, pages_of_runs}
use Rattle.staged.specs.LogWritten.{run_bytes}
use Rattle.staged.specs.Pages.{HoldsPage, page_at}
use Rattle.staged.specs.Steps.{IsBehindLogFlag}
use Rattle.staged.specs.declared.pages.Page.{Page}
use Rattle.staged.specs.declared.device.Which.TheVariants.{Log}
use Rattle.staged.proofs.Homed.{held_at}
use Rattle.staged.proofs.Mapped.{rises_listed, page_here, no_entry}
use Rattle.staged.proofs.Numbered.{page}
use Rattle.staged.proofs.Reaching.{steps_then, stay_steps}
use Rattle.staged.proofs.RunsWritten.{Written, IsWritten, Stands, gathered_none, gathered_on, gathered_out, gathered_all, gathered_few, gathered_zero, is_written, pasted_before, pasted_block, stands_none, stands_more, stands_read, count_most}
use Rattle.staged.proofs.runs.write_runs.Goals as goal

abbrev none : Page
none = page 0 []

pub goes_on-requires : goal.goes_on-requires
goes_on-requires g c =
    let entries = c.args.pages.now.entries.entries in
    let k = c.loop-number.invariant.0 in
    let here = page_here entries k (page c.in-Some.number.now c.in-Some.bytes.now.value) none (c.in-Some.number.now, c.in-Some.bytes.now) c.next.new.self (c.loop-number.invariant.1 ∙ c.in-Some.ensures.steps) refl in
    let held = held_at (listed c.args.pages.now) k none (rises_listed entries c.args.pages.now.ordered) here.0 in
    c.requires.numbers.1 c.in-Some.number.now (subst (λ (p : Page). HoldsPage (listed c.args.pages.now) p.number) (sym here.1) held)

pub put_page-requires : goal.put_page-requires
put_page-requires g c =
    let entries = c.args.pages.now.entries.entries in
    let pages = listed c.args.pages.now in
    let k = c.loop-number.invariant.0 in
    let inv = c.loop-number.invariant.3 in
    let here = page_here entries k (page c.in-Some.number.now c.in-Some.bytes.now.value) none (c.in-Some.number.now, c.in-Some.bytes.now) c.next.new.self (c.loop-number.invariant.1 ∙ c.in-Some.ensures.steps) refl in
    let within : k < length pages = here.0 in
    let some : 0 < length pages = omega arith in
    let room : 12 + 512 * length pages ≤ length c.args.buffer.now = c.requires.room some in
    let size : length c.loop-number.buffer ≡ length c.args.buffer.now = inv.size in
    let few : c.loop-number.count ≤ k = inv.few in
    omega arith

pub loop-number-init : goal.loop-number-init
loop-number-init g c = (
  0,
  (let all : c.into_iter-number-iterator.result ≡ c.args.pages.now.entries.entries = search rules in sym all),
  [],
  record {
    within = omega arith;
    few = omega arith;
    most = omega arith;
    room = omega arith;
    least = omega arith;
    size = refl;
    gathered = gathered_none (listed c.args.pages.now) c.args.buffer.now;
    as_honest = refl;
    counted = omega arith;
    home_writes = refl;
    log_writes = refl;
    home = λ _. refl;
    stands = λ honest. stands_none (g.D.Device.content c.args.device.now).log (c.requires.headed honest);
    steps = stay_steps Log IsBehindLogFlag g.D.Device g.met.D.Device.counts_now g.met.D.Device.only_now c.args.device.now;
  },
)

pub loop-number-preserved : goal.loop-number-preserved
loop-number-preserved g c =
    let entries = c.args.pages.now.entries.entries in
    let pages = listed c.args.pages.now in
    let k = c.loop-number.invariant.0 in
    let runs = c.loop-number.invariant.2 in
    let inv = c.loop-number.invariant.3 in
    let here = page_here entries k (page c.in-Some.number.now c.in-Some.bytes.now.value) none (c.in-Some.number.now, c.in-Some.bytes.now) c.next.new.self (c.loop-number.invariant.1 ∙ c.in-Some.ensures.steps) refl in
    let fits : 12 + 512 * c.loop-number.count ≤ length c.loop-number.buffer =
    let room : 12 + 512 * length pages ≤ length c.args.buffer.now = c.requires.room (let w : k < length pages = here.0 in omega arith) in
    let w : k < length pages = here.0 in
    let size : length c.loop-number.buffer ≡ length c.args.buffer.now = inv.size in
    let few : c.loop-number.count ≤ k = inv.few in
    omega arith in
    let goes : (is_some (page_at pages (c.in-Some.number.now + 1)) && nat_lt (c.loop-number.count + 1) 4294967295) ≡ true = sym c.goes_on.ensures ∙ c.if-not-goes_on.false in
    let on : (is_some (page_at pages ((get_or pages k none).number + 1)) && nat_lt (c.loop-number.count + 1) 4294967295) ≡ true = subst (λ (p : Page). (is_some (page_at pages (p.number + 1)) && nat_lt (c.loop-number.count + 1) 4294967295) ≡ true) here.1 goes in (
      k + 1,
      here.2,
      runs,
      record {
        within = let e = here.0 in omega arith;
        few = let e = inv.few in omega arith;
        most = count_most (is_some (page_at pages (c.in-Some.number.now + 1))) (c.loop-number.count + 1) goes;
        room = let e = inv.room in omega arith;
        least = inv.least;
        size = c.put_page.auto.buffer ∙ inv.size;
        gathered = gathered_on pages k c.loop-number.count c.loop-number.buffer c.put_page.new.buffer runs here.0 (pasted_before c.loop-number.buffer c.in-Some.bytes.now.value c.put_page.new.buffer _ fits c.put_page.ensures.pasted) (pasted_block c.loop-number.buffer c.in-Some.bytes.now.value c.put_page.new.buffer _ fits c.put_page.ensures.whole c.put_page.ensures.pasted ∙ ap (λ (p : Page). p.bytes) here.1) inv.gathered (rises_listed entries c.args.pages.now.ordered) on;
        as_honest = inv.as_honest;
        counted = inv.counted;
        home_writes = inv.home_writes;
        log_writes = inv.log_writes;
        home = inv.home;
        stands = inv.stands;
        steps = inv.steps;
      },
    )

pub overflow_add-number : goal.overflow_add-number
overflow_add-number g c =
    let entries = c.args.pages.now.entries.entries in
    let k = c.loop-number.invariant.0 in
    let here = page_here entries k (page c.in-Some.number.now c.in-Some.bytes.now.value) none (c.in-Some.number.now, c.in-Some.bytes.now) c.next.new.self (c.loop-number.invariant.1 ∙ c.in-Some.ensures.steps) refl in
    let e : c.in-Some.number.now < 2 ^ 55 = c.requires.numbers.1 c.in-Some.number.now (subst (λ (p : Page). HoldsPage (listed c.args.pages.now) p.number) (sym here.1) (held_at (listed c.args.pages.now) k none (rises_listed entries c.args.pages.now.ordered) here.0)) in
    omega arith

pub overflow_sub-number : goal.overflow_sub-number
overflow_sub-number g c =
    let entries = c.args.pages.now.entries.entries in
    let pages = listed c.args.pages.now in
    let k = c.loop-number.invariant.0 in
    let inv = c.loop-number.invariant.3 in
    let here = page_here entries k (page c.in-Some.number.now c.in-Some.bytes.now.value) none (c.in-Some.number.now, c.in-Some.bytes.now) c.next.new.self (c.loop-number.invariant.1 ∙ c.in-Some.ensures.steps) refl in
    let same : c.in-Some.number.now ≡ (get_or pages k none).number = ap (λ (p : Page). p.number) here.1 in
    let few : c.loop-number.count ≤ (get_or pages k none).number = gathered_few pages k c.loop-number.count c.loop-number.buffer c.loop-number.invariant.2 inv.gathered in
    omega arith

pub returns-in_err-write_run-clause-steps : goal.returns-in_err-write_run-clause-steps
returns-in_err-write_run-clause-steps g c = steps_then Log IsBehindLogFlag g.D.Device g.met.D.Device.counts_now _ _ _ c.loop-number.invariant.3.steps c.write_run.ensures.steps

pub loop-number-preserved-then-not-goes_on : goal.loop-number-preserved-then-not-goes_on
loop-number-preserved-then-not-goes_on g c =
    let entries = c.args.pages.now.entries.entries in
    let pages = listed c.args.pages.now in
    let k = c.loop-number.invariant.0 in
    let runs = c.loop-number.invariant.2 in
    let inv = c.loop-number.invariant.3 in
    let done = c.in_ok-write_run.ensures in
    let count = c.loop-number.count in
    let before = c.loop-number.buffer in
    let after = c.put_page.new.buffer in
    let here = page_here entries k (page c.in-Some.number.now c.in-Some.bytes.now.value) none (c.in-Some.number.now, c.in-Some.bytes.now) c.next.new.self (c.loop-number.invariant.1 ∙ c.in-Some.ensures.steps) refl in
    let w : k < length pages = here.0 in
    let few : count ≤ k = inv.few in
    let most : count < 4294967295 = inv.most in
    let size : length before ≡ length c.args.buffer.now = inv.size in
    let room : 12 + 512 * length pages ≤ length c.args.buffer.now = c.requires.room (omega arith) in
    let fits : 12 + 512 * count ≤ length before = omega arith in
    let number : c.in-Some.number.now ≡ (get_or pages k none).number = ap (λ (p : Page). p.number) here.1 in
    let small : c.in-Some.number.now < 2 ^ 55 = c.requires.numbers.1 c.in-Some.number.now (subst (λ (p : Page). HoldsPage (listed c.args.pages.now) p.number) (sym here.1) (held_at (listed c.args.pages.now) k none (rises_listed entries c.args.pages.now.ordered) here.0)) in
    let goes : (is_some (page_at pages (c.in-Some.number.now + 1)) && nat_lt (count + 1) 4294967295) ≡ false = sym c.goes_on.ensures ∙ c.if-not-goes_on.true in
    let out : (is_some (page_at pages ((get_or pages k none).number + 1)) && nat_lt (count + 1) 4294967295) ≡ false = subst (λ (p : Page). (is_some (page_at pages (p.number + 1)) && nat_lt (count + 1) 4294967295) ≡ false) here.1 goes in
    let kept = pasted_before before c.in-Some.bytes.now.value after _ fits c.put_page.ensures.pasted in
    let put = pasted_block before c.in-Some.bytes.now.value after _ fits c.put_page.ensures.whole c.put_page.ensures.pasted ∙ ap (λ (p : Page). p.bytes) here.1 in
    let run : Written = record { first = (get_or pages k none).number - count; count = count + 1; bytes = take (512 * (count + 1)) (drop 12 after) } in
    let same_size : length after ≡ length before = c.put_page.auto.buffer in
    let is : IsWritten run = is_written pages k count before after runs here.0 kept put inv.gathered (omega arith) (omega arith) (omega arith) in
    let first : c.in-Some.number.now + 1 - (count + 1) ≡ (get_or pages k none).number - count = omega arith in
    let was = λ (honest : IsTrue (g.D.Device.honest c.args.device.now)). subst (λ (b : Bool). IsTrue b) (sym inv.as_honest) honest in (
      k + 1,
      here.2,
      runs ++ run ∷ [],
      record {
        within = omega arith;
        few = omega arith;
        most = omega arith;
        room = let e = inv.room in omega arith;
        least = let e = inv.least in omega arith;
        size = c.write_run.auto.buffer ∙ c.put_page.auto.buffer ∙ inv.size;
        gathered = gathered_zero pages (k + 1) after c.write_run.new.buffer (runs ++ run ∷ []) (gathered_out pages k count before after runs here.0 kept put inv.gathered out is);
        as_honest = done.honest ∙ inv.as_honest;
        counted = let e = done.failures in let f = inv.counted in omega arith;
        home_writes = done.home_writes ∙ inv.home_writes;
        log_writes = done.log_writes ∙ ap counted_up inv.log_writes ∙ sym (ap (λ (m : ℕ). times_up m (g.D.Device.writes c.args.device.now Log)) (length_push runs run ∙ add-one (length runs)));
        home = λ honest. ap (λ (f : Files). f.home) (done.written (was honest)) ∙ inv.home honest;
        stands = λ honest.
            let log = (g.D.Device.content c.loop-number.device).log in
            subst (λ (l : List ℕ). Stands (g.D.Device.content c.args.device.now).log l (c.loop-number.place + (12 + 512 * (count + 1))) (runs ++ run ∷ []))
            (ap (λ (m : ℕ). overwritten log c.loop-number.place (run_bytes m (count + 1) (take (512 * (count + 1)) (drop 12 after)))) (sym first) ∙ sym (ap (λ (f : Files). f.log) (done.written (was honest))))
            (stands_more (g.D.Device.content c.args.device.now).log log c.loop-number.place runs run is (inv.stands honest));
        steps = steps_then Log IsBehindLogFlag g.D.Device g.met.D.Device.counts_now _ _ _ inv.steps done.steps;
      },
    )

pub returns-clause-head : goal.returns-clause-head
returns-clause-head g c = λ honest.
    let inv = c.loop-number.invariant.3 in
    (stands_read (g.D.Device.content c.args.device.now).log (g.D.Device.content c.loop-number.device).log c.loop-number.place c.loop-number.invariant.2 (c.requires.headed honest) inv.gathered.good (inv.stands honest)).0

pub returns-clause-written : goal.returns-clause-written
returns-clause-written g c = λ honest.
    let inv = c.loop-number.invariant.3 in
    let pages = listed c.args.pages.now in
    let all = gathered_all pages c.loop-number.invariant.0 c.loop-number.count c.loop-number.buffer c.loop-number.invariant.2 (no_entry c.args.pages.now.entries.entries c.loop-number.invariant.0 (c.loop-number.invariant.1 ∙ c.in-None.ensures.steps.0)) inv.gathered in
    let read = stands_read (g.D.Device.content c.args.device.now).log (g.D.Device.content c.loop-number.device).log c.loop-number.place c.loop-number.invariant.2 (c.requires.headed honest) inv.gathered.good (inv.stands honest) in (
      subst (λ (n : ℕ). has_runs true n (drop 25 (g.D.Device.content c.loop-number.device).log) ≡ true) all.1 read.1,
      subst (λ (n : ℕ). pages_of_runs true n (drop 25 (g.D.Device.content c.loop-number.device).log) ≡ pages) all.1 (read.2 ∙ all.0),
    )

pub returns-clause-log_writes : goal.returns-clause-log_writes
returns-clause-log_writes g c =
    let inv = c.loop-number.invariant.3 in
    let pages = listed c.args.pages.now in
    let all = gathered_all pages c.loop-number.invariant.0 c.loop-number.count c.loop-number.buffer c.loop-number.invariant.2 (no_entry c.args.pages.now.entries.entries c.loop-number.invariant.0 (c.loop-number.invariant.1 ∙ c.in-None.ensures.steps.0)) inv.gathered in
    inv.log_writes ∙ ap (λ (n : ℕ). times_up n (g.D.Device.writes c.args.device.now Log)) all.1
