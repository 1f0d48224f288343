use Rattle.std.proofs.Common.{All}
use Rattle.std.proofs.lemmas.List.Elements.{All-more}
use Rattle.beet_words.specs.Words.{IsWord}
use Rattle.beet_words.specs.Bundles.{list_bytes}
use Rattle.beet_words.proofs.Appending.{bytes-more}
use Rattle.beet_words.proofs.bundle.push_lists.Goals as goal

pub loop-list-preserved : goal.loop-list-preserved
loop-list-preserved c =
    let lists = c.args.lists.now in
    let i = c.loop-list.list-index in
    let list = c.list-item.result in
    record {
      file = bytes-more list_bytes lists i list c.args.file.now.items c.loop-list.file.items _ c.loop-list-test.true
          c.loop-list.invariant.file
          (rw (← c.list-item.is) c.in_ok-push_list.ensures.bytes);
      words = All-more (λ list. All IsWord list) lists i list c.loop-list-test.true c.loop-list.invariant.words
          (rw (← c.list-item.is) c.in_ok-push_list.ensures.words);
    }
