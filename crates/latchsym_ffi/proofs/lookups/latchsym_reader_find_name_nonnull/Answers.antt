use Rattle.latchsym_ffi.proofs.Words.{◌≡◌, ◌∙◌, Option, Some, None, [], refl, rules, sym, half_open}
use Rattle.latchsym_ffi.proofs.Words.{found_holds, replay, Answered, ReaderState, looked_answers}
use Rattle.latchsym_ffi.proofs.Words.{Content, Catalog, Follower, Reader, Writer, kind_in}
use Rattle.latchsym_ffi.proofs.Words.{reader_kind}
use Rattle.latchsym_ffi.proofs.lookups.latchsym_reader_find_name_nonnull.Goals as goal

reader_of : (held : Option Content) → kind_in held ≡ reader_kind
    → (r : ReaderState) × (held ≡ Some (Reader r))
reader_of None e = absurd (cc)
reader_of (Some (Catalog k)) e = absurd (cc)
reader_of (Some (Writer w)) e = absurd (cc)
reader_of (Some (Follower f)) e = absurd (cc)
reader_of (Some (Reader r)) e = (r, refl)

pub name_in-requires-clause-there : goal.name_in-requires-clause-there
name_in-requires-clause-there c =
    let reader = c.args.reader.now in
    let is_one : reader.kind ≡ reader_kind = search rules in
    let held = reader_of reader.pointer.content (sym reader.tied ∙ is_one) in
    let t = c.in-Answered.ensures held.0 held.1 in
    found_holds c.args.addr (replay half_open [] t.0.knowledge.known) c.in-Answered.found
    (looked_answers half_open c.args.addr held.0.memory held.0.knowledge t.0.knowledge
    (Answered c.in-Answered.found c.in-Answered.generation) t.2.looked).found
