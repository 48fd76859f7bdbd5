-- Texts that are said one after the other.
use Rattle.texts.proofs.Words.{◌≡◌, ◌∙◌, ℕ, List, [], ◌∷◌, ◌++◌, Option, Bool, true, false, refl}
use Rattle.texts.proofs.Words.{sym, ap, subst, append_assoc, append-nil, take, drop, length, ◌+◌}
use Rattle.texts.proofs.Words.{◌-◌, ◌<◌, ◌≤◌, ◌⊎◌, flat_map, get_or, take-append-drop, le_of_eq}
use Rattle.texts.proofs.Words.{arith, flat_map-append, take-append-add, take-append_seam, take_all}
use Rattle.texts.proofs.Words.{take_more, take-take, zip, Appends, Keeps, append_known, Appends-nil}
use Rattle.texts.proofs.Words.{Appends-trans, Keeps-refl, append_known-grown, append_known-passed}
use Rattle.texts.proofs.Words.{error_kept, writer_in, Output, Awaits, Says, Delivered, Delivers}
use Rattle.texts.proofs.Words.{WrotePart, contents_of, error_in, has_failed, kept_back, writer_of}
use Rattle.facts.proofs.Pairs.{flat_map-zip_more, zip-past}

-- where nothing failed, what the writer took was said
pub taken_is_said : {W : Type 0} {contents : W → Option (List ℕ)} {old new : Output W}
    {text : List ℕ} → has_failed old ≡ false
    → (has_failed new ≡ false → error_in new ≡ error_in old)
    → Appends (contents_of contents old) (contents_of contents new) text
    → Says contents old new text
taken_is_said {W} {contents} {old} {new} {text} sound no_error took = record {
  next = λ opened whole rest h. record {
    taken = h.taken ++ text;
    lost = [];
    parts = h.parts ∙ ap (λ l. (h.taken ++ l) ++ (text ++ rest)) (h.none_lost sound)
        ∙ ap (λ l. l ++ (text ++ rest)) (append-nil h.taken)
        ∙ sym (append_assoc h.taken text rest)
        ∙ ap (λ l. l ++ rest) (sym (append-nil (h.taken ++ text)));
    holds = Appends-trans _ _ _ _ _ h.holds took;
    none_lost = λ _. refl;
    no_error = λ still. no_error still ∙ h.no_error sound;
    uncalled = λ failed.
        absurd (not_both (has_failed old) (ap has_failed (h.uncalled failed) ∙ failed) sound);
  };
  stays = λ failed. grind (arith, sound, failed);
}
  where
    not_both : (b : Bool) → b ≡ true → b ≡ false → ⊥
    not_both b is_so is_not = grind (arith, is_so, is_not)

-- where a call failed, whatever comes is said
pub lost_is_said : {W : Type 0} {contents : W → Option (List ℕ)} {old new : Output W}
    {part : List ℕ} → (more : List ℕ) → has_failed new ≡ true → Says contents old new part
    → Says contents old new (part ++ more)
lost_is_said {W} {contents} {old} {new} {part} more failed said = record {
  next = λ opened whole rest h.
      let mid = said.next opened whole (more ++ rest)
      (subst (λ l. Awaits contents opened whole l old) (append_assoc part more rest) h) in
      record {
        taken = mid.taken;
        lost = mid.lost ++ more;
        parts = mid.parts ∙ sym (append_assoc (mid.taken ++ mid.lost) more rest)
            ∙ ap (λ l. l ++ rest) (append_assoc mid.taken mid.lost more);
        holds = mid.holds;
        none_lost = λ sound. absurd (grind (arith, sound, failed));
        no_error = mid.no_error;
        uncalled = mid.uncalled;
      };
  stays = said.stays;
}

pub nothing_said : {W : Type 0} {contents : W → Option (List ℕ)} (o : Output W)
    → Says contents o o []
nothing_said o = record { next = λ opened whole rest h. h; stays = λ failed. failed }

-- a text after one that was said
pub then : {W : Type 0} {contents : W → Option (List ℕ)} {old mid new : Output W} {t more : List ℕ}
    → Says contents old mid t → Says contents mid new more
    → Says contents old new (t ++ more)
then {W} {contents} {old} {mid} {new} {t} {more} first second = record {
  next =
      λ opened whole rest h. second.next opened whole rest (first.next opened whole (more ++ rest)
      (subst (λ l. Awaits contents opened whole l old) (append_assoc t more rest) h));
  stays = λ failed. second.stays (first.stays failed);
}

-- the same text, said otherwise
pub same_text : {W : Type 0} {contents : W → Option (List ℕ)} {old new : Output W} {t text : List ℕ}
    → t ≡ text → Says contents old new t → Says contents old new text
same_text {W} {contents} {old} {new} = subst (λ text. Says contents old new text)

-- the texts of the first items of a list, and then that of the next one
pub piece_said : {W X : Type 0} {contents : W → Option (List ℕ)} {old mid new : Output W}
    (f : X → List ℕ) (xs : List X) (i : ℕ) (x : X) → i < length xs → x ≡ get_or xs i x
    → Says contents old mid (flat_map f (take i xs)) → Says contents mid new (f x)
    → Says contents old new (flat_map f (take (i + 1) xs))
piece_said {W} {X} {contents} {old} {mid} {new} f xs i x within is first second =
    let split : take (i + 1) xs ≡ take i xs ++ x ∷ [] =
    take_more xs i x within ∙ ap (λ y. take i xs ++ y ∷ []) (sym is) in
    same_text (sym (ap (flat_map f) split ∙ flat_map-append f (take i xs) (x ∷ [])
    ∙ ap (λ l. flat_map f (take i xs) ++ l) (append-nil (f x)))) (then first second)

awaited : {W : Type 0} {contents : W → Option (List ℕ)} {old new : Output W} {text : List ℕ}
    → Says contents old new text → Awaits contents old text [] new
awaited {W} {contents} {old} {new} {text} said = said.next old text [] (record {
  taken = [];
  lost = [];
  parts = sym (append-nil text);
  holds = Appends-nil (contents_of contents old);
  none_lost = λ _. refl;
  no_error = λ _. refl;
  uncalled = λ _. refl;
})

was_sound : (before after : Bool) → (before ≡ true → after ≡ true) → after ≡ false → before ≡ false
was_sound false after stays sound = refl
was_sound true after stays sound = absurd (grind (arith, stays refl, sound))

-- the texts of the first pairs of two lists, and then that of the next pair
pub pair_said : {W X Y : Type 0} {contents : W → Option (List ℕ)} {old mid new : Output W}
    (f : X × Y → List ℕ) (xs : List X) (ys : List Y) (i : ℕ) (x : X) (y : Y) → i < length xs
    → i < length ys
    → Says contents old mid (flat_map f (take i (zip xs ys)))
    → Says contents mid new (f (get_or xs i x, get_or ys i y))
    → Says contents old new (flat_map f (take (i + 1) (zip xs ys)))
pair_said f xs ys i x y below_x below_y first second =
    same_text (sym (flat_map-zip_more f xs ys i x y below_x below_y)) (then first second)

-- those of all pairs
pub pairs_said : {W X Y : Type 0} {contents : W → Option (List ℕ)} {old new : Output W}
    (f : X × Y → List ℕ) (xs : List X) (ys : List Y) (i : ℕ) → (length xs ≤ i) ⊎ (length ys ≤ i)
    → Says contents old new (flat_map f (take i (zip xs ys)))
    → Says contents old new (flat_map f (zip xs ys))
pairs_said f xs ys i few said =
    same_text (ap (flat_map f) (take_all i (zip xs ys) (zip-past xs ys i few))) said

-- what was said and flushed is delivered, if no call failed
pub all_delivered : {W : Type 0} {contents : W → Option (List ℕ)} {old new : Output W}
    {text : List ℕ} → Delivers contents old new text → has_failed new ≡ false
    → Delivered contents old new text
all_delivered {W} {contents} {old} {new} {text} (said, flushed) sound =
    let a = awaited said in
    let whole : a.taken ≡ text = sym (a.parts ∙ append-nil (a.taken ++ a.lost)
    ∙ ap (λ l. a.taken ++ l) (a.none_lost sound) ∙ append-nil a.taken) in (
      was_sound (has_failed old) (has_failed new) said.stays sound,
      sound,
      subst (λ l. Appends (contents_of contents old) (contents_of contents new) l) whole a.holds,
      flushed sound,
    )

-- a text, and then the device was flushed
pub then_flushed : {W : Type 0} {contents : W → Option (List ℕ)} {old mid new : Output W}
    {t : List ℕ} → Says contents old mid t → Delivers contents mid new []
    → Delivers contents old new t
then_flushed first second = (same_text (append-nil _) (then first second.0), second.1)

-- a beginning of what was said is held, if a call failed
pub part_written : {W : Type 0} {contents : W → Option (List ℕ)} {old new : Output W}
    {text : List ℕ} → Says contents old new text → has_failed new ≡ true
    → WrotePart contents old new text
part_written {W} {contents} {old} {new} {text} said failed =
    let a = awaited said in
    (failed, a.taken, a.lost, a.parts ∙ append-nil (a.taken ++ a.lost), a.holds)

module _ {W : Type 0} {contents : W → Option (List ℕ)} {old new : Output W} where
  -- what is kept back is said
  pub kept_is_said : {text : List ℕ} → has_failed old ≡ false → new.device ≡ old.device
      → kept_back new ≡ kept_back old ++ text → Says contents old new text
  kept_is_said sound same kept =
      taken_is_said sound (λ _. ap (λ d. error_kept d) same)
      (append_known-grown _ _ (kept_back old) _ _ (subst (λ d. Keeps (contents_of contents old)
      (append_known (contents (writer_in d)) (kept_back old))) (sym same) (Keeps-refl _)) kept)

  -- nothing is kept back, and the device took the front of bytes, which is all if no call failed
  pub written_is_said : (n : ℕ) (bytes : List ℕ) → has_failed old ≡ false
      → (has_failed new ≡ false → error_in new ≡ error_in old)
      → (has_failed new ≡ false → n ≡ length bytes)
      → kept_back old ≡ [] → kept_back new ≡ kept_back old
      → Appends (contents (writer_of old)) (contents (writer_of new)) (take n bytes)
      → Says contents old new bytes
  written_is_said n bytes sound no_error all none same took =
      let said : Says contents old new (take n bytes) = taken_is_said sound no_error
      (subst (Appends _ _) (append-nil (take n bytes)) (append_known-passed _ _ _ _ _ _ []
      (Keeps-refl _) none took (same ∙ sym (append-nil _)))) in
      elim (has_failed new) as (λ b. has_failed new ≡ b → Says contents old new bytes) [
        | true ↦ λ failed.
            same_text (take-append-drop n bytes) (lost_is_said (drop n bytes) failed said)
        | false ↦ λ still. same_text (take_all n bytes (le_of_eq (sym (all still)))) said
      ] refl

-- what is behind the digits of a copy of 20 bytes is cut off
pub digits_kept : (old buf digits tail : List ℕ) (len start : ℕ) → len ≡ length old
    → start + length digits ≡ 20 → drop start buf ≡ digits ++ tail
    → take (len + (20 - start)) (old ++ take ((start + 20) - start) (drop start buf))
    ≡ old ++ digits
digits_kept old buf digits tail len start all ends is =
    let copy = take ((start + 20) - start) (drop start buf) in
    ap (λ n. take (n + (20 - start)) (old ++ copy)) all ∙ take-append-add old copy (20 - start)
    ∙ ap (λ l. old ++ l)
    (take-take (20 - start) ((start + 20) - start) (drop start buf) (omega arith)
    ∙ ap (take (20 - start)) is ∙ ap (λ n. take n (digits ++ tail)) (omega (arith, ends))
    ∙ take-append_seam digits tail)
