-- The words that the proofs of this crate use, of whatever crate.
pub use Rattle.std.proofs.Common.{◌≡◌, ◌∙◌, ℕ, ◌+◌, ◌<◌, ◌≤◌, inl, inr, List, [], ◌∷◌, ◌++◌, length}
pub use Rattle.std.proofs.Common.{length-append, arith, refl, sym, ap, subst, Ok, Err, take}
pub use Rattle.std.proofs.Common.{append_assoc, append-nil, Bool, true, false, cond, ◌||◌, ◌==◌}
pub use Rattle.std.proofs.Common.{get_or, true≢false, zero, suc, not, ◌&&◌, Result, ◌⊎◌}
pub use Rattle.std.proofs.Common.{length-drop}
pub use Rattle.std.proofs.Math.Bool.{or-false, or-true, and_assoc}
pub use Rattle.std.proofs.lemmas.Bool.{eqb-true, false_from_ne_true, lt-ltb, ltb-true, and_parts}
pub use Rattle.std.proofs.lemmas.Bool.{eq-eqb, or_cases, or_parts, le-ltb, lt-leb, and_right}
pub use Rattle.std.proofs.lemmas.Bool.{cond_both, ne_eqb, cond-false}
pub use Rattle.std.proofs.lemmas.List.Folds.{list_any-append, list_any_at}
pub use Rattle.std.proofs.lemmas.List.{take_more, reverse-append, take_all, drop_more, get_or-drop}
pub use Rattle.std.proofs.lemmas.List.{length-take, take_rest, drop-drop, get_or-take}
pub use Rattle.std.specs.Io.KnownBytes.{Appends, Consumes, IsAtEnd, Keeps}
pub use Rattle.std.specs.List.{onto_first, list_any, starts_with, list_all}
pub use Rattle.std.specs.Prelude.{◌^◌, IfErr, IfOk, OnErr, codes, nat_eq, slice_index, Some, nat_le}
pub use Rattle.std.specs.Prelude.{reverse, slice_index_or}
pub use Rattle.logs.specs.AnnotatedLogs.{annotated, annotated_lines, first_context, context_over}
pub use Rattle.logs.specs.AnnotatedLogs.{counted, annotated_from, fewest, is_address_byte, is_begun}
pub use Rattle.logs.specs.AnnotatedLogs.{SameAddresses, framed, owed, tallied}
pub use Rattle.logs.specs.Annotation.{IsAnnotation, IsAnnotationOf, Annotates, BeginsLog, EndsLog}
pub use Rattle.logs.specs.Annotation.{IsCutOff, IsOpen, IsUpToDate, KeepsNothingBack, Passes, Puts}
pub use Rattle.logs.specs.Annotation.{context_in, put_of, Adds, Ended, kept_of, IsWriteFault}
pub use Rattle.logs.specs.Answering.{Answering}
pub use Rattle.logs.specs.KernelOffsets.{kernel_offset_in}
pub use Rattle.logs.specs.Lines.{lines, AreWhole, IsLine, has_end, is_long}
pub use Rattle.logs.specs.Places.{ends_prefix, is_lead, is_of, last_of, lead_item, prefix_up_to}
pub use Rattle.logs.specs.Places.{first_of, begins_like, has_point, has_time}
pub use Rattle.logs.specs.TakenWords.{begins_user, has_words, tells_place, taken_among, taken_at}
pub use Rattle.logs.specs.TakenWords.{taken_in, has_code}
pub use Rattle.logs.specs.Words.{run_of, is_word_byte, address_at, address_of_word, digits_between}
pub use Rattle.logs.specs.Words.{is_glued, has_prefix, words_behind, words_from, is_closer}
pub use Rattle.logs.specs.declared.annotation.LogFault.{LogFault}
pub use Rattle.logs.specs.declared.annotator.Annotator.{Annotator}
pub use Rattle.logs.specs.declared.contexts.LogContext.{LogContext}
pub use Rattle.logs.specs.declared.address_words.AddressWord.{AddressWord}
pub use Rattle.memchr.specs.Find.{Nowhere, is_byte, FindsNeedle, OccursAt}
pub use Rattle.texts.specs.Counted.{NoneFailed, Rose, device_of, failures_of}
pub use Rattle.texts.specs.Output.{WrotePart, contents_of, has_failed, Delivered, error_in}
pub use Rattle.texts.specs.declared.output.Output.{Output}
