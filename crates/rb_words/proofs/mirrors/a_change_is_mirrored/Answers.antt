use Rattle.rb_words.proofs.MirrorLemmas.{erases_mirrored, with_item_mirrored, by_links_mirrored}
use Rattle.rb_words.proofs.mirrors.a_change_is_mirrored.Goals as goal

pub returns-clause-with_item : goal.returns-clause-with_item
returns-clause-with_item g c old new node item links zero is leads =
    with_item_mirrored old new zero is.capacity is.copy node item links leads

pub returns-clause-erases : goal.returns-clause-erases
returns-clause-erases g c old new a node zero is = erases_mirrored old new a node zero is

pub returns-clause-by_links : goal.returns-clause-by_links
returns-clause-by_links g c old new a node links zero is leads =
    by_links_mirrored old new zero is.capacity is.copy links leads
