use Rattle.std.proofs.Common.{length, subst, sym, ◌∙◌, slice_index}
use Rattle.std.proofs.lemmas.Result.{IfOk-weaker}
use Rattle.beet_book.specs.Dealing.{quantities}
use Rattle.beet_book.proofs.Quantities.{quantities-many}
use Rattle.beet_linear_sharing.specs.Schemes.{five_servers}
use Rattle.beet_coalition.specs.Moved.{WordsMoved}
use Rattle.beet_coalition.specs.Watchers.{two_watch}
use Rattle.beet_five_map.proofs.bidders.words_in_second.Goals as goal

pub returns-then-is_own : goal.returns-then-is_own
returns-then-is_own c =
    let mine = sym c.is_own.ensures ∙ c.if-is_own.true in
    IfOk-weaker c.copy.result _ _
    (λ mapped same. record { known = c.requires.pair.mark; own = λ e. same; moved = λ e. cc (sym mine ∙ e) }) c.copy.ensures

pub returns : goal.returns
returns c =
    let pair = c.args.pair.now in
    let watch = two_watch c.args.two.a c.args.two.b in
    let other = sym c.is_own.ensures ∙ c.if-is_own.false in
    let was = c.as_slice.ensures.value ∙ c.in_ok-was.ensures.first in
    let becomes = c.as_slice-2.ensures.value ∙ c.in_ok-was.ensures.second in
    let many = quantities-many pair.grid.now pair.first.now.curve c.requires.pair.of_grid in
    IfOk-weaker c.move_words.result _ _
    (λ mapped moved. record {
      known = c.requires.pair.mark;
      own = λ e. cc (sym other ∙ e);
      moved = λ e. subst (λ k. WordsMoved five_servers watch k (slice_index (quantities pair.first.now.curve))
          (slice_index (quantities pair.second.now.curve)) c.args.words.now mapped) many
          (subst (λ l. WordsMoved five_servers watch (length l) (slice_index l)
          (slice_index (quantities pair.second.now.curve)) c.args.words.now mapped) was
          (subst (λ l. WordsMoved five_servers watch (length c.as_slice.result.now) (slice_index c.as_slice.result.now)
          (slice_index l) c.args.words.now mapped) becomes moved));
    })
    c.move_words.ensures
