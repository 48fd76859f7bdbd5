-- How an address is taken that a user gives.
use Rattle.std.specs.Prelude.{ℕ, ◌-◌, nat_le, false, if◌then◌else◌, Option, Some, None}
use Rattle.std.specs.Prelude.{option_and_then, Bool, true}
use Rattle.listing.specs.declared.address_rules.AddressRule.{AddressRule}
use Rattle.listing.specs.declared.address_rules.Callers.{Callers}
use Rattle.listing.specs.declared.address_rules.Callers.TheVariants.{ByPlace, Every, Never}
use Rattle.listing.specs.declared.address_rules.LogRule.{LogRule}

-- the address this many bytes lower, if there is one
abbrev pub lower_by : ℕ → ℕ → Option ℕ
lower_by bytes addr = if nat_le bytes addr then Some (addr - bytes) else None

-- how many bytes the looked up address lies before the one that is answered about: one, if this is
-- a return address
abbrev pub before_of : AddressRule → ℕ
before_of rule = if rule.callers then 1 else 0

-- the address that is looked up for one that is given, which there is not below 0
abbrev pub place_of : AddressRule → ℕ → Option ℕ
place_of rule addr = option_and_then (lower_by (before_of rule)) (lower_by rule.offset addr)

-- addresses are looked up as they are given
abbrev pub as_given : AddressRule
as_given = record { callers = false; offset = 0 }

-- whether an address of a log is taken as a return address, whose place in its line says so or not
abbrev pub is_taken_as_caller : Callers → Bool → Bool
is_taken_as_caller ByPlace says_so = says_so
is_taken_as_caller Every says_so = true
is_taken_as_caller Never says_so = false

abbrev pub rule_at : LogRule → Bool → AddressRule
rule_at rule says_so =
    record { callers = is_taken_as_caller rule.callers says_so; offset = rule.offset }
