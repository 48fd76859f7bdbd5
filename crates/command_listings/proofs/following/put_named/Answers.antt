use Rattle.command_listings.proofs.Words.{◌∙◌, By, Followed, GoesOn, Listings, PutsPart, Some, ap}
use Rattle.command_listings.proofs.Words.{inl, inr, is_narrow, lines_of, or-false, refl, sym}
use Rattle.command_listings.proofs.Words.{texts_in}
use Rattle.command_listings.proofs.FollowingLemmas.{answers_are, stopped_ok, stopped_so}
use Rattle.logs.specs.declared.log_names.LogNames.{LogNames}
use Rattle.command_listings.specs.LogAnswers.{answered_by}
use Rattle.logs.proofs.PutLemmas.{is_handed}
use Rattle.command_listings.proofs.following.put_named.Goals as goal

pub returns-in_err-no_catalog-in-Err : goal.returns-in_err-no_catalog-in-Err
returns-in_err-no_catalog-in-Err g c =
    rw (is_handed c.from_residual.result c.from_residual.ensures.1)
    (inl (refl, c.in_err-no_catalog-in-Err.ensures))

pub returns-in_err-names : goal.returns-in_err-names
returns-in_err-names g c =
    let a = c.args in
    let r = c.new-answers.result in
    let answer = answered_by r.index r.rule r.is_narrow in
    let followed : Followed =
    record { is_narrow = c.is_narrow-is_narrow.result; is_told = a.followed.is_told } in
    let s = c.in_err-names.field-0.0 in
    let are = answers_are a.request.sources.now a.request.job.now (texts_in a.texts.now)
    c.in-Ok.index r.index r.rule r.is_narrow c.in-Ok.ensures c.new-answers.ensures.index
    c.new-answers.ensures.rule
    (c.new-answers.ensures.narrow ∙ c.is_narrow-is_narrow.ensures
    ∙ ap (λ t. is_narrow (lines_of t)) c.deref.ensures.value) in
    rw (is_handed c.from_residual-in_err-names.result c.from_residual-in_err-names.ensures.1) (inr (
      answer,
      (c.requires, are, refl),
      stopped_so g.W.Write.contents a.writer.now c.put_by.new.writer
          (PutsPart a.part a.annotator.now c.put_by.new.annotator (By answer)) _
          (λ names. (followed, names)) (λ names text put.
          ((sym c.new-answers.ensures.narrow, sym (or-false a.followed.is_told)), put))
          c.put_by.result s (sym c.stopped.ensures ∙ c.in_err-names.was) c.put_by.ensures,
    ))

pub returns : goal.returns
returns g c =
    let a = c.args in
    let r = c.new-answers.result in
    let answer = answered_by r.index r.rule r.is_narrow in
    let followed : Followed =
    record { is_narrow = c.is_narrow-is_narrow.result; is_told = a.followed.is_told } in
    let are = answers_are a.request.sources.now a.request.job.now (texts_in a.texts.now)
    c.in-Ok.index r.index r.rule r.is_narrow c.in-Ok.ensures c.new-answers.ensures.index
    c.new-answers.ensures.rule
    (c.new-answers.ensures.narrow ∙ c.is_narrow-is_narrow.ensures
    ∙ ap (λ t. is_narrow (lines_of t)) c.deref.ensures.value) in (
      answer,
      (c.requires, are, refl),
      stopped_ok g.W.Write.contents a.writer.now c.put_by.new.writer
          (PutsPart a.part a.annotator.now c.put_by.new.annotator (By answer))
          (λ (x : Followed × LogNames) text.
          GoesOn a.followed (Some (Listings (texts_in a.texts.now))) (By answer) x.0
          × PutsPart a.part a.annotator.now c.put_by.new.annotator (By answer) x.1 text)
          (λ names. (followed, names)) (λ names text put.
          ((sym c.new-answers.ensures.narrow, sym (or-false a.followed.is_told)), put))
          c.put_by.result c.in_ok-names.names (sym c.stopped.ensures ∙ c.in_ok-names.was)
          c.put_by.ensures,
    )
