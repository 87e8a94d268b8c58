use Rattle.std.proofs.Common.{◌≡◌, take}
use Rattle.std.specs.List.{fold, flat_map}
use Rattle.std.specs.Hash.DefaultHasher as sip
use Rattle.sent_batches.specs.BatchHashes.{tag_fed}
use Rattle.sent_batches.proofs.hashing.feed_tags.Given as goal

-- the tags so far are fed
abbrev pub invariant-loop-tag : goal.invariant-loop-tag
invariant-loop-tag l = l.state ≡ fold sip.write l.fn.state (flat_map tag_fed (take l.tag-index l.tags))
