use Rattle.command_listings.proofs.Words.{map, option_copied, texts_in, known_given}
use Rattle.command_listings.proofs.Words.{listing_failures, IsAddressed}
use Rattle.command_listings.proofs.GivenLemmas.{listings_known}
use Rattle.command_listings.proofs.addresses.address_engine.Goals as goal

pub returns : goal.returns
returns g c =
    let a = c.args in
    let readers = a.readers.now in
    listings_known g.W.Write.contents
    (IsAddressed a.form (option_copied a.kernel) (map (λ w. w.now) a.words.now))
    (texts_in c.in_ok-texts.texts)
    (known_given g.M.Read.remaining g.K.Read.remaining g.R.Read.remaining readers)
    c.in_ok-texts.ensures.bytes
    (listing_failures readers c.read_given.new.readers) c.in_ok-texts.ensures.read a.writer.now
    c.answer_names.new.writer c.answer_names.result c.answer_names.ensures
