use Rattle.command_listings.proofs.Words.{◌≡◌, ◌∙◌, ◌-◌, ◌<◌, ◌||◌, ◌&&◌, ◌⊎◌, ℕ, true, false, inl}
use Rattle.command_listings.proofs.Words.{inr, bytes_eq, or-false, List, Some, ap, arith, length}
use Rattle.command_listings.proofs.Words.{list_any, refl, subst, sym, take, take_all, slice_get}
use Rattle.command_listings.proofs.Words.{slice_index_or, SymbolEntry}
use Rattle.std.proofs.lemmas.Bool.{and_right}
use Rattle.std.proofs.lemmas.Option.{slice_get-get_or}
use Rattle.command_listings.specs.KernelNames.{Links, behind_last}
use Rattle.command_listings.specs.NameFilters.{number_of}
use Rattle.command_listings.specs.Sizes.{has_name, has_size_at, is_sized}
use Rattle.command_listings.proofs.NumberLemmas.{behind_ends, behind_within, first_back, named_on}
use Rattle.command_listings.proofs.NumberLemmas.{names_back, names_passed, next_back, sizes_back}
use Rattle.command_listings.proofs.NumberLemmas.{sizes_passed}
use Rattle.command_listings.proofs.kernel_names.KernelNames.has_size.Goals as goal
use Rattle.command_listings.proofs.kernel_names.KernelNames.has_size.Goals.{then-eq+else-has_size_at}
use Rattle.command_listings.proofs.kernel_names.KernelNames.has_size.Goals.{else-eq}

pub loop-end-init : goal.loop-end-init
loop-end-init c =
    let symbols = c.args.symbols.now in
    let name = c.args.name.now in
    let end = c.index-end.result.now in
    let last : end ≡ behind_last symbols c.number_of.result (length symbols) =
    first_back symbols c.args.self.now c.requires c.number_of.result end c.number_of.ensures.below
    (subst (λ (k : Links). end ≡ slice_index_or k.last c.number_of.result end) c.self.view_is
    c.index-end.ensures) in
    let is : end ≡ behind_last symbols (number_of name) (length symbols) =
    last ∙ ap (λ n. behind_last symbols n (length symbols)) c.number_of.ensures.is in
    let all : take (length symbols) symbols ≡ symbols =
    take_all (length symbols) symbols (omega arith) in
    record {
      within = omega (arith, is, behind_within symbols (number_of name) (length symbols));
      ends = is ∙ behind_ends symbols (number_of name) (length symbols)
          ∙ ap (behind_last symbols (number_of name)) (sym is);
      named = ap (list_any (has_name name)) (sym all) ∙ names_passed symbols name (length symbols)
          ∙ ap (λ n. list_any (has_name name) (take n symbols)) (sym is);
      sized = ap (list_any (is_sized c.args.index.now name c.args.size)) (sym all)
          ∙ sizes_passed c.args.index.now symbols name c.args.size (length symbols) ∙ ap
          (λ n. list_any (is_sized c.args.index.now name c.args.size) (take n symbols)) (sym is);
    }

pub loop-end-smaller : goal.loop-end-smaller
loop-end-smaller c =
    let symbols = c.args.symbols.now in
    let name = c.args.name.now in
    let e = c.loop-end.end in
    let s = c.index-symbols-end.result in
    let some : 0 < e = omega (arith, c.loop-end-test.true) in
    let at : slice_get symbols (e - 1) ≡ Some s =
    slice_get-get_or symbols (e - 1) s (omega (arith, some, c.loop-end.invariant.within))
    ∙ ap (λ (x : SymbolEntry). Some x) (sym c.index-symbols-end.is) in
    let back : c.index-end-in-loop-end.result.now ≡ behind_last symbols (number_of name) (e - 1) =
    next_back symbols c.args.self.now c.requires (number_of name) e s
    c.index-end-in-loop-end.result.now some c.loop-end.invariant.within
    c.loop-end.invariant.ends at
    (subst (λ (k : Links). c.index-end-in-loop-end.result.now ≡ slice_index_or k.before (e - 1)
    c.index-end-in-loop-end.result.now) c.self.view_is c.index-end-in-loop-end.ensures) in
    omega (arith, back, some, behind_within symbols (number_of name) (e - 1))

pub loop-end-preserved : goal.loop-end-preserved
loop-end-preserved c =
    let index = c.args.index.now in
    let symbols = c.args.symbols.now in
    let name = c.args.name.now in
    let size = c.args.size in
    let e = c.loop-end.end in
    let s = c.index-symbols-end.result in
    let next = c.index-end-in-loop-end.result.now in
    let before = behind_last symbols (number_of name) (e - 1) in
    let some : 0 < e = omega (arith, c.loop-end-test.true) in
    let at : slice_get symbols (e - 1) ≡ Some s =
    slice_get-get_or symbols (e - 1) s (omega (arith, some, c.loop-end.invariant.within))
    ∙ ap (λ (x : SymbolEntry). Some x) (sym c.index-symbols-end.is) in
    let back : next ≡ before =
    next_back symbols c.args.self.now c.requires (number_of name) e s next some
    c.loop-end.invariant.within c.loop-end.invariant.ends at
    (subst (λ (k : Links). next ≡ slice_index_or k.before (e - 1) next) c.self.view_is
    c.index-end-in-loop-end.ensures) in
    let eq : has_name name s ≡ c.eq.result =
    sym (c.eq.ensures ∙ ap (λ (n : List ℕ). bytes_eq n name) c.name.ensures) in
    let has_it : ((has_name name s ≡ true) × (c.if-eq.has_name ≡ true))
    ⊎ ((has_name name s ≡ false) × (c.if-eq.has_name ≡ c.loop-end.has_name)) =
    elim c.if-eq.branch [
      | then-eq+else-has_size_at w ↦ inl (eq ∙ w.if-eq.true, w.has_name-is)
      | else-eq w ↦ inr (eq ∙ w.if-eq.false, w.has_name-is)
    ] in
    let unsized : is_sized index name size s ≡ false =
    elim c.if-eq.branch [
      | then-eq+else-has_size_at w ↦
          ap (λ b. has_name name s && b) (ap (λ (x : SymbolEntry). has_size_at index size x.addr)
          (sym c.symbol.view_is) ∙ sym w.has_size_at.ensures ∙ w.if-has_size_at.false)
          ∙ and_right (has_name name s) false refl
      | else-eq w ↦ ap (λ b. b && has_size_at index size s.addr) (eq ∙ w.if-eq.false)
    ] in
    record {
      within = omega (
        arith,
        back,
        some,
        c.loop-end.invariant.within,
        behind_within symbols (number_of name) (e - 1),
      );
      ends = back ∙ behind_ends symbols (number_of name) (e - 1)
          ∙ ap (behind_last symbols (number_of name)) (sym back);
      named =
          named_on _ c.loop-end.has_name c.if-eq.has_name _ (has_name name s)
          (c.loop-end.invariant.named
          ∙ ap (λ b. c.loop-end.has_name || b) (names_back symbols name e s some at)) has_it
          ∙ ap (λ n. c.if-eq.has_name || list_any (has_name name) (take n symbols)) (sym back);
      sized =
          c.loop-end.invariant.sized ∙ sizes_back index symbols name size e s some at
          ∙ ap (λ b. list_any (is_sized index name size) (take before symbols) || b) unsized
          ∙ or-false (list_any (is_sized index name size) (take before symbols))
          ∙ ap (λ n. list_any (is_sized index name size) (take n symbols)) (sym back);
    }
