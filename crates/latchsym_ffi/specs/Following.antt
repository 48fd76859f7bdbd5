-- What a follower gives.
use Rattle.std.specs.Prelude.{◌≡◌, ◌⊎◌, ℕ, ◌-◌, List, position, Option, Some, None}
use Rattle.std.specs.Option.{option_and_then}
use Rattle.listing.specs.AddressRules.{lower_by}
use Rattle.modules.specs.Entries.{CatalogEntries}
use Rattle.order_laws.specs.declared.refusals.Refusal.{Refusal}
use Rattle.order_laws.specs.Refusals.{refusal_number}
use Rattle.latch_table.specs.Writers.{WriterState}
use Rattle.follower.specs.Catalogs.{Forgets, standing_at}
use Rattle.follower.specs.Code.{CodeEntry}
use Rattle.follower.specs.Following.{Followed, RefusesMoment, RefusesToShow}
use Rattle.follower.specs.Noted.{noted_at, stays_at, without_gone}
use Rattle.follower.specs.declared.catalogs.DatedCatalog.{DatedCatalog}
use Rattle.follower.specs.declared.noted.DatedCode.{DatedCode}
use Rattle.follower.specs.declared.catalogs.Moment.{Moment}
use Rattle.follower.specs.declared.follower.NotShown.{NotShown}
use Rattle.follower.specs.declared.follower.NotShown.TheVariants.{Refused, StampFalls}
use Rattle.latchsym_ffi.specs.Answers.{answer_number}
use Rattle.latchsym_ffi.specs.Finding.{Known, known_as}
use Rattle.latchsym_ffi.specs.Handles.{FollowerGoes, HoldsFollower, RefusesOther, Stays}
use Rattle.latchsym_ffi.specs.Kinds.{follower_kind}
use Rattle.latchsym_ffi.specs.Named.{IsTold}
use Rattle.latchsym_ffi.specs.declared.answers.CallOutcome.TheVariants.{BadStamp, Done, Forgotten}
use Rattle.latchsym_ffi.specs.declared.answers.CallOutcome.TheVariants.{Nothing}
use Rattle.latchsym_ffi.specs.declared.finding.CatalogSymbol.{CatalogSymbol}
use Rattle.latchsym_ffi.specs.declared.finding.AddressUse.{AddressUse}
use Rattle.latchsym_ffi.specs.declared.finding.AddressUse.TheVariants.{AsItIs, AsReturn}
use Rattle.latchsym_ffi.specs.declared.handles.Handle.{Handle}
use Rattle.latchsym_ffi.specs.declared.noting.CallerCode.{CallerCode}

-- the number that says why a catalog is not shown
abbrev pub not_shown_number : NotShown → ℕ
not_shown_number StampFalls = answer_number BadStamp
not_shown_number (Refused why) = refusal_number why

-- the number says why it is not
pub record RefusesShowing (c : CatalogEntries) (since : ℕ) (f : Followed) (result : ℕ)
    : Type 0 where
  pub why : NotShown
  pub number : result ≡ not_shown_number why
  pub refuses : RefusesToShow c since f.writer f.catalogs why

-- what is known by the current catalog, and nothing if there is none
abbrev pub TellsStanding : Option DatedCatalog → (CatalogEntries → Known) → ℕ → CatalogSymbol
    → CatalogSymbol → Type 0
TellsStanding None known result old new = (result ≡ answer_number Forgotten) × (new ≡ old)
TellsStanding (Some d) known result old new = IsTold d.catalog (known d.catalog) result new

-- the code as C hands it in
abbrev pub code_in : CallerCode → CodeEntry
code_in c = record { start = c.addr; len = c.len; name = c.name.now; owner = c.«module».now }

-- the number of the module of noted code: no catalog has so many
abbrev pub number_of_noted : ℕ
number_of_noted = 18446744073709551615

-- the code that was noted of an address, or of the byte before a return address
abbrev pub noted_as : AddressUse → List DatedCode → Moment → ℕ → Option DatedCode
noted_as AsItIs codes moment addr = noted_at codes moment addr
noted_as AsReturn codes moment addr = option_and_then (noted_at codes moment) (lower_by 1 addr)

-- what is written of an address in noted code, all of whose bytes are one symbol, and the number
-- that is returned
pub record IsToldOf (code : CodeEntry) (addr result : ℕ) (s : CatalogSymbol) : Type 0 where
  pub done : result ≡ answer_number Done
  pub number : s.module_number ≡ number_of_noted
  pub offset : s.offset ≡ addr - code.start
  pub size : s.size ≡ code.len
  pub name : s.name.now ≡ code.name
  pub owner : s.«module».now ≡ code.owner

-- what is written of noted code if there is some, and else this
abbrev pub TellsNotedOr : Type 0 → Option DatedCode → ℕ → ℕ → CatalogSymbol → Type 0
TellsNotedOr Else None addr result new = Else
TellsNotedOr Else (Some d) addr result new = IsToldOf d.code addr result new

-- what is known of an address, looked up so, by the code that was noted to the handle's follower
-- and there at a moment, and else by the catalog that was the current one then
abbrev pub TellsAt : Moment → AddressUse → ℕ → Handle → ℕ → CatalogSymbol → CatalogSymbol → Type 0
TellsAt moment taken addr h result old new =
    (f : Followed) → HoldsFollower f h
    → TellsNotedOr
    (TellsStanding (standing_at f.catalogs moment) (λ c. known_as taken c addr) result old new)
    (noted_as taken f.noted moment addr) addr result new

-- a follower answers, and stays as it was; another handle is a bad one
pub record FindsAt (moment : Moment) (taken : AddressUse) (addr : ℕ) (h h' : Handle) (result : ℕ)
    (old new : CatalogSymbol)
    : Type 0 where
  pub stays : Stays h h'
  pub told : TellsAt moment taken addr h result old new
  pub other : RefusesOther follower_kind h h' old new result

-- the number and the tag for a catalog which is gone, or for none
abbrev pub TellsTag : Option ℕ → ℕ → ℕ → ℕ → Type 0
TellsTag None result old new = (result ≡ answer_number Nothing) × (new ≡ old)
TellsTag (Some tag) result old new = (result ≡ answer_number Done) × (new ≡ tag)

-- the oldest catalog is forgotten if the next one was shown by the moment, and its tag is written;
-- and so is code that was gone by the moment
abbrev pub ForgetsAt : Moment → ℕ → ℕ → ℕ → Followed → Followed → Type 0
ForgetsAt moment result old new f f' =
    (tag : Option ℕ) × Forgets moment f.catalogs f'.catalogs tag
    × (f'.noted ≡ without_gone moment f.noted) × (f'.writer ≡ f.writer)
    × TellsTag tag result old new

-- so does a follower; another handle is a bad one
pub record ForgetsBy (moment : Moment) (h h' : Handle) (result old new : ℕ) : Type 0 where
  pub forgotten : FollowerGoes (ForgetsAt moment result old new) h h'
  pub other : RefusesOther follower_kind h h' old new result

-- the number says why no code is noted
abbrev pub RefusesNoting : WriterState → ℕ → Type 0
RefusesNoting w result = (e : Refusal) × (result ≡ refusal_number e) × RefusesMoment w e

-- no code begins there that was not gone already; or the number says why it is not noted
abbrev pub RefusesGone : ℕ → Followed → ℕ → Type 0
RefusesGone start f result =
    ((result ≡ answer_number Nothing) × (position (stays_at start) f.noted ≡ None))
    ⊎ RefusesNoting f.writer result
