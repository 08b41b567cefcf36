-- What a contract sees of the two ends of a tile's ring, which two threads hold.
use Rattle.std.specs.Prelude.{ℕ, List}
use Rattle.rtrb.specs.Ring.{sent, known_free, received, known_items, consumer_capacity, IsPair, SameProducer, SameConsumer}
use Rattle.tile_handoff.specs.declared.note.Note.{Note}
use Rattle.tile_handoff.specs.declared.ring.sender.Sender.{Sender}
use Rattle.tile_handoff.specs.declared.ring.sender.Closed.{Closed}
use Rattle.tile_handoff.specs.declared.ring.receiver.Receiver.{Receiver}

-- the notes that a sender has put, the oldest first
abbrev pub notes_put : Sender → List Note
notes_put sender = sent sender.producer

-- all the notes that were put by the sender that a `Closed` was
abbrev pub notes_carried : Closed → List Note
notes_carried closed = sent closed.producer

-- the notes that a receiver has taken, the oldest first
abbrev pub notes_taken : Receiver → List Note
notes_taken receiver = received receiver.consumer

-- how many places a sender knows to be free
abbrev pub places_known : Sender → ℕ
places_known sender = known_free sender.producer

-- the notes that a receiver has seen and not yet taken
abbrev pub notes_known : Receiver → List Note
notes_known receiver = known_items receiver.consumer

-- how many notes the ring of a receiver holds at most
abbrev pub capacity_of : Receiver → ℕ
capacity_of receiver = consumer_capacity receiver.consumer

-- a sender and a receiver are the two ends of one ring
abbrev pub ArePair : Sender → Receiver → Type 0
ArePair sender receiver = IsPair sender.producer receiver.consumer

-- the sender of the same ring, later
abbrev pub IsSameSender : Sender → Sender → Type 0
IsSameSender old new = SameProducer old.producer new.producer

-- the receiver of the same ring, later
abbrev pub IsSameReceiver : Receiver → Receiver → Type 0
IsSameReceiver old new = SameConsumer old.consumer new.consumer

-- a sender has become a `Closed`
abbrev pub EndedIn : Sender → Closed → Type 0
EndedIn sender closed = SameProducer sender.producer closed.producer

-- a `Closed` came from a receiver's own sender
abbrev pub CameFromOwnSender : Closed → Receiver → Type 0
CameFromOwnSender closed receiver = IsPair closed.producer receiver.consumer
