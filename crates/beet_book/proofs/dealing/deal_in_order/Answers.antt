use Rattle.std.proofs.Common.{◌≡◌, ◌*◌, ◌∷◌, ◌++◌, [], length, get_or, arith, rules, refl, sym, ◌∙◌}
use Rattle.std.proofs.lemmas.List.Elements.{All-push}
use Rattle.std.proofs.lemmas.Option.{slice_get_read, slice_get-get_or}
use Rattle.beet_book.specs.Dealing.{HasLengths}
use Rattle.beet_book.proofs.Items.{get-set_other}
use Rattle.beet_book.proofs.Each.{each-more}
use Rattle.beet_book.proofs.dealing.deal_in_order.Goals as goal

pub loop-i-preserved : goal.loop-i-preserved
loop-i-preserved c =
    let inv = c.loop-i.invariant in
    let i = c.loop-i.i in
    let points = c.in_ok-deal_bidder.field-0 in
    let items : c.push_reserved.new.self.items ≡ c.loop-i.dealt.items ++ points ∷ [] = search rules in
    let curve = slice_get_read c.args.curves.now (length c.args.curves.now) i c.index-curves-i.result refl
    (omega arith) c.index-curves-i.is in
    let before = get_or c.loop-i.tapes i c.index-tapes-i.result in
    let tape = slice_get-get_or c.loop-i.tapes i c.index-tapes-i.result (omega arith) in
    record {
      tapes = search rules;
      count = search rules;
      room = search rules;
      each = rw items (each-more c.args.curves.now c.args.tapes.now c.loop-i.tapes c.loop-i.dealt.items i
          c.index-curves-i.result before c.deal_bidder.new.tape points
          inv.each inv.count (omega arith) curve (sym (inv.rest i (omega arith)) ∙ tape) c.in_ok-deal_bidder.ensures.dealt);
      rest = λ j h. get-set_other c.loop-i.tapes i j c.deal_bidder.new.tape (omega arith) ∙ inv.rest j (omega arith);
      lengths = rw items (All-push (λ points. HasLengths points (2 * c.args.grid.now.prices)) c.loop-i.dealt.items
          points inv.lengths c.in_ok-deal_bidder.ensures.lengths);
    }
