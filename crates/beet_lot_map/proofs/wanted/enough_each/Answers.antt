use Rattle.std.proofs.Common.{◌∙◌, arith, length, refl, sym, true≢false}
use Rattle.std.proofs.lemmas.Option.{slice_get_read}
use Rattle.beet_lot_map.proofs.LotSteps.{enough-all, enough-more}
use Rattle.beet_lot_map.proofs.wanted.enough_each.Goals as goal

pub loop-i-init : goal.loop-i-init
loop-i-init c = λ k book held lt. absurd (omega (arith, lt))

pub loop-i-preserved : goal.loop-i-preserved
loop-i-preserved c =
    let many = c.requires in
    enough-more c.args.books.now c.args.words.now c.loop-i.i c.index-books-i.result c.index-words-i.result
    (slice_get_read c.args.books.now (length c.args.books.now) c.loop-i.i c.index-books-i.result refl (omega arith) c.index-books-i.is)
    (slice_get_read c.args.words.now (length c.args.words.now) c.loop-i.i c.index-words-i.result refl (omega (arith, many))
    c.index-words-i.is)
    c.loop-i.invariant (c.enough.ensures.0 c.if-not-enough.false)

pub returns-then-not-enough : goal.returns-then-not-enough
returns-then-not-enough c =
    let many = c.requires in (
      λ no. absurd (true≢false (sym no)),
      λ each. absurd (true≢false (sym (c.enough.ensures.1 (each c.loop-i.i c.index-books-i.result c.index-words-i.result
          (slice_get_read c.args.books.now (length c.args.books.now) c.loop-i.i c.index-books-i.result refl (omega arith)
          c.index-books-i.is)
          (slice_get_read c.args.words.now (length c.args.words.now) c.loop-i.i c.index-words-i.result refl (omega (arith, many))
          c.index-words-i.is))) ∙ c.if-not-enough.true)),
    )

pub returns : goal.returns
returns c = (λ yes. enough-all c.args.books.now c.args.words.now c.loop-i.i (omega arith) c.loop-i.invariant, λ each. refl)
