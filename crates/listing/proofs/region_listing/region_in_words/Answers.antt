use Rattle.listing.proofs.Words.{◌≤◌, arith, length, rules, sym, tests, length-map}
use Rattle.std.proofs.Common.{map}
use Rattle.listing.proofs.RegionLineLemmas.{region_short, regions_too_long}
use Rattle.listing.proofs.region_listing.region_in_words.Goals.{in_default-via-then-words-lt4}
use Rattle.listing.proofs.region_listing.region_in_words.Goals.{in_default-via-else-words-lt4+else-words-lt5}
use Rattle.listing.proofs.region_listing.region_in_words.Goals as goal

pub returns-in_default : goal.returns-in_default
returns-in_default c =
    elim c.in_default.branch [
      | in_default-via-then-words-lt4 w ↦ sym
          (region_short c.args.words.now (search (rules, tests)))
      | in_default-via-else-words-lt4+else-words-lt5 w ↦ sym (regions_too_long
          (map (λ v. v.now) c.args.words.now) (let many : 5 ≤ length c.args.words.now =
          search (rules, tests) in omega (arith, many, length-map c.args.words.now (λ v. v.now))))
    ]
