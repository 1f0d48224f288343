-- Three transcripts of one run lead an audit to its end.
use Rattle.std.proofs.Common.{inl, ℕ, List, [], refl, subst}
use Rattle.beet_field.specs.Trio.{of_each}
use Rattle.beet_store.specs.Files.{File}
use Rattle.beet_errand.specs.Errands.{answers}
use Rattle.beet_errand.specs.declared.answer.Status.TheVariants.{Done}
use Rattle.beet_audit.specs.Audits.{recombined_book}
use Rattle.beet_job_audit.specs.Reading.{read_errand}
use Rattle.beet_job_audit.specs.declared.reading.ReadViews.{ReadViews}
use Rattle.beet_app_laws.specs.Dues.{IsDueOfAudit, IsDueOfViews}
use Rattle.beet_app_laws.proofs.Telling.{one-value, told-views}
use Rattle.beet_completeness_laws.specs.Complete.{CanAudit}
use Rattle.beet_completeness_laws.proofs.Leading.{book-done, then-done}

views-done : (files : List File) (auction one two three : List ℕ) (can : CanAudit files auction one two three) →
    IsDueOfViews can.read Done
views-done files auction one two three can =
    let read : ReadViews = can.read in
    inl
    (can.one_run, book-done (recombined_book read.grid read.views) (of_each (λ view. view.masks) read.views) can.masks)

pub audit-done : (files : List File) (auction one two three : List ℕ) → CanAudit files auction one two three →
    IsDueOfAudit files auction one two three Done
audit-done files auction one two three can =
    let step = read_errand auction one two three in
    record {
      read = then-done files step can.read (λ read. answers Done []) can.views_read refl;
      views = λ read r. subst (λ (v : ReadViews). IsDueOfViews v Done)
          (one-value files step can.read read can.views_read r told-views)
          (views-done files auction one two three can);
    }
