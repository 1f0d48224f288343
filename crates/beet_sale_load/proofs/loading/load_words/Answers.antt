use Rattle.std.proofs.Common.{◌∙◌, ap, sym}
use Rattle.beet_field.specs.declared.trio.Trio.{Trio}
use Rattle.beet_errand.proofs.Frame.{bind, exits, given, handed, stopped}
use Rattle.beet_load.specs.Servers.{AllWords, ServerWords}
use Rattle.beet_load.specs.Wholes.{all_words}
use Rattle.beet_sale_load.proofs.Starting.{can-start}
use Rattle.beet_sale_load.specs.SaleLoading.{words_errand}
use Rattle.beet_sale_load.proofs.loading.load_words.Goals as goal

pub returns-in_err-words-clause-reads : goal.returns-in_err-words-clause-reads
unfolding words_errand
returns-in_err-words-clause-reads g c =
    let rows = c.rows-rows.ensures.value in
    exits c.from_residual.ensures.1 (stopped (rw rows at (rw c.sale_wants-wanted.ensures at c.in_err-words.ensures.reads)))

pub returns-in_err-words-2-clause-reads : goal.returns-in_err-words-2-clause-reads
unfolding words_errand
returns-in_err-words-2-clause-reads g c =
    let rows = c.rows-rows.ensures.value in
    exits c.from_residual-in_err-words-2.ensures.1
    (bind (rw rows at (rw c.sale_wants-wanted.ensures at c.in_ok-words.ensures.reads))
    (stopped (handed c.in_err-words-2.ensures
    (rw rows at (rw (c.lists_in.ensures, c.sale_wants-wanted.ensures) at c.read_lists-lists.ensures.reads)))))

pub returns-clause-reads : goal.returns-clause-reads
unfolding words_errand
returns-clause-reads g c =
    let rows = c.rows-rows.ensures.value in
    let servers = ap (λ (w : AllWords). w.servers) (c.words.view_is ∙ c.in_ok-words-2.ensures.0) in
    bind (rw rows at (rw c.sale_wants-wanted.ensures at c.in_ok-words.ensures.reads))
    (bind (handed c.in_ok-words-2.ensures.1
    (rw rows at (rw (c.lists_in.ensures, c.sale_wants-wanted.ensures) at c.read_lists-lists.ensures.reads)))
    (given (sym (c.words_with.ensures ∙ ap (λ (w : Trio ServerWords). all_words w c.in_ok-words-2.lists.items) servers))))

pub returns-clause-starts : goal.returns-clause-starts
returns-clause-starts g c =
    let rows = c.rows-rows.ensures.value in
    let servers = ap (λ (w : AllWords). w.servers) (c.words.view_is ∙ c.in_ok-words-2.ensures.0) in
    can-start c.args.sale.now c.in_ok-words.words.servers c.in_ok-words-2.lists.items _
    (c.words_with.ensures ∙ ap (λ (w : Trio ServerWords). all_words w c.in_ok-words-2.lists.items) servers)
    (rw rows at (rw c.sale_wants-wanted.ensures at c.in_ok-words.ensures.enough))
    (rw rows at (rw c.sale_wants-wanted.ensures at c.in_ok-words.ensures.cut))
    (rw rows at (rw c.in_ok-words-2.ensures.1 at c.read_lists-lists.ensures.count))
    (rw rows at (rw c.sale_wants-wanted.ensures at (rw c.in_ok-words-2.ensures.1 at c.read_lists-lists.ensures.deal)))
