use Rattle.command_listings.proofs.Words.{None, option_copied, texts_in, known_given}
use Rattle.command_listings.proofs.Words.{listing_failures, IsChecked}
use Rattle.command_listings.proofs.GivenLemmas.{listings_known}
use Rattle.command_listings.proofs.checks.check_engine.Goals as goal

pub returns : goal.returns
returns g c =
    let a = c.args in
    let readers = a.readers.now in
    listings_known g.W.Write.contents (IsChecked (option_copied a.kernel) a.files.now None)
    (texts_in c.in_ok-texts.texts)
    (known_given g.M.Read.remaining g.K.Read.remaining g.R.Read.remaining readers)
    c.in_ok-texts.ensures.bytes
    (listing_failures readers c.read_given.new.readers) c.in_ok-texts.ensures.read a.writer.now
    c.check_given.new.writer c.check_given.result c.check_given.ensures
