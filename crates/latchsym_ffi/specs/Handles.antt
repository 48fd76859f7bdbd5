-- What a handle holds.
use Rattle.std.specs.Prelude.{◌≡◌, ◌≢◌, ℕ, Some}
use Rattle.latch_table.specs.Readers.{ReaderState}
use Rattle.latch_table.specs.Writers.{WriterState}
use Rattle.follower.specs.Following.{Followed}
use Rattle.latchsym_ffi.specs.HeldCatalogs.{HeldCatalog}
use Rattle.latchsym_ffi.specs.declared.contents.Content.TheVariants.{Catalog, Follower, Reader}
use Rattle.latchsym_ffi.specs.declared.contents.Content.TheVariants.{Writer}
use Rattle.latchsym_ffi.specs.declared.handles.Handle.{Handle}

abbrev pub HoldsCatalog : HeldCatalog → Handle → Type 0
HoldsCatalog c h = h.pointer.content ≡ Some (Catalog c)

abbrev pub HoldsWriter : WriterState → Handle → Type 0
HoldsWriter w h = h.pointer.content ≡ Some (Writer w)

abbrev pub HoldsReader : ReaderState → Handle → Type 0
HoldsReader r h = h.pointer.content ≡ Some (Reader r)

abbrev pub HoldsFollower : Followed → Handle → Type 0
HoldsFollower f h = h.pointer.content ≡ Some (Follower f)

-- the handle holds what it held
abbrev pub Stays : Handle → Handle → Type 0
Stays h h' = h'.pointer.content ≡ h.pointer.content

-- a handle of another kind is a bad one: it stays as it was, and nothing is written
abbrev pub RefusesOther : {A : Type 0} → ℕ → Handle → Handle → A → A → ℕ → Type 0
RefusesOther kind h h' told told' result =
    h.kind ≢ kind → (result ≡ 101) × (h' ≡ h) × (told' ≡ told)

-- the writer that the handle held, and the one that it then holds, are so
abbrev pub WriterGoes : (WriterState → WriterState → Type 0) → Handle → Handle → Type 0
WriterGoes P h h' =
    (w : WriterState) → HoldsWriter w h → (w' : WriterState) × HoldsWriter w' h' × P w w'

-- the reader that the handle held, and the one that it then holds, are so
abbrev pub ReaderGoes : (ReaderState → ReaderState → Type 0) → Handle → Handle → Type 0
ReaderGoes P h h' =
    (r : ReaderState) → HoldsReader r h → (r' : ReaderState) × HoldsReader r' h' × P r r'

-- the follower that the handle held, and the one that it then holds, are so
abbrev pub FollowerGoes : (Followed → Followed → Type 0) → Handle → Handle → Type 0
FollowerGoes P h h' =
    (f : Followed) → HoldsFollower f h → (f' : Followed) × HoldsFollower f' h' × P f f'
