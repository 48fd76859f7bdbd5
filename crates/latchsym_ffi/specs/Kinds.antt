-- The numbers of the kinds of content.
use Rattle.std.specs.Prelude.{ℕ, Option, Some, None}
use Rattle.latchsym_ffi.specs.declared.contents.Content.{Content}
use Rattle.latchsym_ffi.specs.declared.contents.Content.TheVariants.{Catalog, Follower, Reader}
use Rattle.latchsym_ffi.specs.declared.contents.Content.TheVariants.{Writer}

abbrev pub catalog_kind : ℕ
catalog_kind = 1

abbrev pub writer_kind : ℕ
writer_kind = 2

abbrev pub reader_kind : ℕ
reader_kind = 3

abbrev pub follower_kind : ℕ
follower_kind = 4

abbrev pub kind_of : Content → ℕ
kind_of (Catalog c) = catalog_kind
kind_of (Writer w) = writer_kind
kind_of (Reader r) = reader_kind
kind_of (Follower f) = follower_kind

-- the kind of a handle, which is 0 if it is closed
abbrev pub kind_in : Option Content → ℕ
kind_in None = 0
kind_in (Some content) = kind_of content
