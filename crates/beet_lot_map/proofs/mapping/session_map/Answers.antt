use Rattle.std.proofs.Common.{◌≡◌, ◌+◌, ◌∙◌, List, inr, ap, arith, length, length-append, refl, subst, sym}
use Rattle.std.proofs.lemmas.Option.{slice_get_read}
use Rattle.std.proofs.lemmas.Result.{err_from_is_err_and}
use Rattle.beet_words.specs.Bundles.{Words}
use Rattle.beet_lot_map.specs.LotMaps.{MappedBefore}
use Rattle.beet_lot_map.proofs.LotSteps.{mapped-more, mapped-none, no-memory-here, refused-here, views-same}
use Rattle.beet_lot_map.proofs.mapping.session_map.Goals as goal

pub map_lot-requires : goal.map_lot-requires
map_lot-requires c =
    let many = c.requires.many in
    c.requires.enough c.loop-i.i c.index-first-i.result c.index-words-i.result
    (slice_get_read c.args.first.now (length c.args.first.now) c.loop-i.i c.index-first-i.result refl (omega arith) c.index-first-i.is)
    (slice_get_read c.args.words.now (length c.args.words.now) c.loop-i.i c.index-words-i.result refl (omega (arith, many))
    c.index-words-i.is)

pub loop-i-init : goal.loop-i-init
loop-i-init c = record {
  count = ap length c.new-mapped.ensures.items;
  before = mapped-none c.args.me c.args.first.now c.args.words.now c.args.second.now c.new-mapped.result.items;
}

pub returns-in_err-lot-clause-refused : goal.returns-in_err-lot-clause-refused
returns-in_err-lot-clause-refused c =
    let p = err_from_is_err_and c.from_residual.result c.from_residual.ensures.1 in
    let many = c.requires.many in
    let lots : length c.args.second.now ≡ length c.args.first.now = omega arith in
    rw (p.1, p.2) (inr (
      lots,
      (
        c.loop-i.i,
        refused-here c.args.me c.args.first.now c.args.words.now c.args.second.now c.loop-i.mapped.items c.loop-i.i
            c.loop-i.invariant.count c.index-first-i.result c.index-words-i.result c.index-second-i.result
            (slice_get_read c.args.first.now (length c.args.first.now) c.loop-i.i c.index-first-i.result refl (omega arith)
            c.index-first-i.is)
            (slice_get_read c.args.words.now (length c.args.words.now) c.loop-i.i c.index-words-i.result refl (omega (arith, many))
            c.index-words-i.is)
            (slice_get_read c.args.second.now (length c.args.second.now) c.loop-i.i c.index-second-i.result refl (omega (arith, lots))
            c.index-second-i.is)
            c.loop-i.invariant.before many c.in_err-lot.field-0.0 c.in_err-lot.ensures.refused,
      ),
    ))

pub returns-in_err-push-clause-refused : goal.returns-in_err-push-clause-refused
returns-in_err-push-clause-refused c =
    let p = err_from_is_err_and c.from_residual-in_err-push.result c.from_residual-in_err-push.ensures.1 in
    let many = c.requires.many in
    let lots : length c.args.second.now ≡ length c.args.first.now = omega arith in
    rw (p.1, p.2) (inr (
      lots,
      (
        c.loop-i.i,
        no-memory-here c.args.me c.args.first.now c.args.words.now c.args.second.now c.loop-i.mapped.items c.loop-i.i
            c.loop-i.invariant.count c.index-first-i.result c.index-words-i.result c.index-second-i.result
            (slice_get_read c.args.first.now (length c.args.first.now) c.loop-i.i c.index-first-i.result refl (omega arith)
            c.index-first-i.is)
            (slice_get_read c.args.words.now (length c.args.words.now) c.loop-i.i c.index-words-i.result refl (omega (arith, many))
            c.index-words-i.is)
            (slice_get_read c.args.second.now (length c.args.second.now) c.loop-i.i c.index-second-i.result refl (omega (arith, lots))
            c.index-second-i.is)
            c.loop-i.invariant.before many c.in_ok-lot.ensures.mapped.agree,
      ),
    ))

pub loop-i-preserved : goal.loop-i-preserved
loop-i-preserved c =
    let many = c.requires.many in
    let lots : length c.args.second.now ≡ length c.args.first.now = omega arith in
    let count = c.loop-i.invariant.count in
    let items = c.in_ok-push.ensures.items in
    record {
      count = ap length items ∙ length-append c.loop-i.mapped.items _ ∙ ap (λ n. n + 1) count;
      before = subst (λ (items : List Words). MappedBefore c.args.me c.args.first.now c.args.words.now c.args.second.now items
          (c.loop-i.i + 1))
          (sym items)
          (mapped-more c.args.me c.args.first.now c.args.words.now c.args.second.now c.loop-i.mapped.items c.loop-i.i
          count c.index-first-i.result c.index-words-i.result c.index-second-i.result
          (slice_get_read c.args.first.now (length c.args.first.now) c.loop-i.i c.index-first-i.result refl (omega arith)
          c.index-first-i.is)
          (slice_get_read c.args.words.now (length c.args.words.now) c.loop-i.i c.index-words-i.result refl (omega (arith, many))
          c.index-words-i.is)
          (slice_get_read c.args.second.now (length c.args.second.now) c.loop-i.i c.index-second-i.result refl (omega (arith, lots))
          c.index-second-i.is)
          c.loop-i.invariant.before c.in_ok-lot.lot c.in_ok-lot.ensures.mapped);
    }

pub returns-clause-mapped : goal.returns-clause-mapped
returns-clause-mapped c =
    let all : c.loop-i.i ≡ length c.args.first.now = omega arith in
    record {
      lots = omega arith;
      count = c.loop-i.invariant.count ∙ all;
      each = subst (MappedBefore c.args.me c.args.first.now c.args.words.now c.args.second.now c.loop-i.mapped.items) all
          c.loop-i.invariant.before;
    }

pub returns-clause-looks : goal.returns-clause-looks
returns-clause-looks c =
    views-same c.args.me c.args.first.now c.args.words.now c.args.second.now c.loop-i.mapped.items c.requires.many
    (returns-clause-mapped c)
