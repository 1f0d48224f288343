use Rattle.std.proofs.Common.{ℕ, ◌≡◌, ◌≤◌, ◌++◌, length, take, arith, length-append, length-take, length-drop, refl}
use Rattle.std.proofs.lemmas.Result.{err_from_is_err_and}
use Rattle.beet_store.proofs.ReadFacts.{read_more, read_front, read_kept, read_nothing}
use Rattle.beet_store.proofs.host.read_whole.Goals as goal

pub loop-turn-preserved : goal.loop-turn-preserved
loop-turn-preserved g c =
    let size : length c.read.new.buf ≡ c.wanted-want.result = omega (arith, length-take {A = ℕ}) in
    let some : c.in-Ok.count ≤ length c.read.new.buf = omega (arith, c.in-Ok.ensures.bound.0) in
    record {
      consumed = rw c.in_ok-extend_from_slice.ensures.items
          (read_front _ _ _ _ _ _ _ some c.loop-turn.invariant.consumed c.in-Ok.ensures.bytes.0);
      within = omega arith;
      turns = omega (arith, length-append {A = ℕ}, length-take {A = ℕ}, c.in_ok-extend_from_slice.ensures.len);
      piece = omega (arith, length-append {A = ℕ}, length-drop {A = ℕ});
    }

pub returns-in_default-clause-read : goal.returns-in_default-clause-read
returns-in_default-clause-read g c = record {
  bytes = c.loop-turn.bytes.items;
  consumed = read_kept _ _ _ _ c.loop-turn.invariant.consumed c.in_default.ensures.bytes;
  within = omega arith;
  whole = tt;
}

pub returns-then-count-eq0-clause-read : goal.returns-then-count-eq0-clause-read
returns-then-count-eq0-clause-read g c = record {
  bytes = c.loop-turn.bytes.items;
  consumed = read_nothing _ _ _ _ _ _ c.if-count-eq0.true c.loop-turn.invariant.consumed c.in-Ok.ensures.bytes.0;
  within = omega arith;
  whole = (refl, c.in-Ok.ensures.bytes.1 c.if-count-eq0.true (omega (arith, length-take {A = ℕ})));
}

pub returns-in_err-extend_from_slice-clause-read : goal.returns-in_err-extend_from_slice-clause-read
returns-in_err-extend_from_slice-clause-read g c =
    let failed = err_from_is_err_and c.from_residual.result c.from_residual.ensures.1 in
    let size : length c.read.new.buf ≡ c.wanted-want.result = omega (arith, length-take {A = ℕ}) in
    let some : c.in-Ok.count ≤ length c.read.new.buf = omega (arith, c.in-Ok.ensures.bound.0) in
    record {
      bytes = c.loop-turn.bytes.items ++ take c.in-Ok.count c.read.new.buf;
      consumed = read_more _ _ _ _ _ c.loop-turn.invariant.consumed c.in-Ok.ensures.bytes.0;
      within = omega (arith, length-append {A = ℕ}, length-take {A = ℕ});
      whole = rw (failed.1, failed.2) tt;
    }

pub returns-then-len-limit-clause-read : goal.returns-then-len-limit-clause-read
returns-then-len-limit-clause-read g c =
    let size : length c.read.new.buf ≡ c.wanted-want.result = omega (arith, length-take {A = ℕ}) in
    let some : c.in-Ok.count ≤ length c.read.new.buf = omega (arith, c.in-Ok.ensures.bound.0) in
    record {
      bytes = c.extend_from_slice.new.self.items;
      consumed = rw c.in_ok-extend_from_slice.ensures.items
          (read_front _ _ _ _ _ _ _ some c.loop-turn.invariant.consumed c.in-Ok.ensures.bytes.0);
      within = omega (arith, length-append {A = ℕ}, length-take {A = ℕ}, c.in_ok-extend_from_slice.ensures.len);
      whole = omega arith;
    }
