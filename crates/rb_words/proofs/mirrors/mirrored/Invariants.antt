use Rattle.rb_words.proofs.Words.{◌≡◌, ◌+◌, ◌++◌, take, vec_len, vec_capacity, mirror_stores}
use Rattle.rb_words.proofs.mirrors.mirrored.Given as goal

abbrev pub invariant-loop-link : goal.invariant-loop-link
invariant-loop-link l = record {
  items : l.out.items ≡ l.initial.out.items ++ mirror_stores (take l.link-index l.links);
  len : vec_len l.out ≡ vec_len l.initial.out + l.link-index;
  capacity : vec_capacity l.out ≡ vec_capacity l.initial.out;
}
