-- How a body is read, part by part.
use Rattle.std.proofs.Common.{Bool, [], ◌++◌, Some}
use Rattle.std.specs.Io.KnownBytes.{IsAtEnd}
use Rattle.session_devices.specs.ByteTransfers.{ByteTransfer, TakesNothing, TakesJoined}
use Rattle.http_requests.specs.Requests.{AwaitsBody}
use Rattle.http_requests.specs.AwaitedReads.{Source}
use Rattle.http_requests.specs.ReceivedBytes.{ReadBuffer, ReadsOn, IsRead, ReadFails, StopsWhile, read_moment, failed_call}
use Rattle.http_requests.specs.Bodies.{TakesBody, BreaksBody, body_moment, body_call}
use Rattle.http_requests.specs.PartialRequests.{IsPart, AwaitsMoreBody, reader_moment, ContinuesBody, TakesPart}
use Rattle.http_requests.specs.declared.request.BodyLength.{BodyLength}
use Rattle.http_requests.specs.declared.request.RequestFault.{RequestFault}
use Rattle.http_requests.specs.declared.request.RequestFault.TheVariants as fault
use Rattle.http_requests.specs.declared.body_reader.BodyReader.{BodyReader}
use Rattle.http_requests.specs.declared.body_reader.BodyStatus.TheVariants.{Complete, Partial, Invalid}
use Rattle.http_requests.specs.declared.read_buffer.ReadError.{ReadError}
use Rattle.http_requests.proofs.Readings.{nothing_yet, with_text, read_after, stops_reading}
use Rattle.http_requests.proofs.Parts.{awaits_body, ended_breaks, breaks_anyway}

module _ {S R : Type 0} (takes : ByteTransfer S) (source : Source R) where
  pub begins_body : TakesNothing S takes → (s : R) (r : ReadBuffer) (before : S) (size : BodyLength) (reader : BodyReader) → IsPart size [] [] reader
      → TakesPart (body_call takes source size) (body_moment s r before) (body_moment s r before) reader
  begins_body nothing s r before size reader part =
      record { text = []; content = []; part = part; reads = nothing_yet source (AwaitsBody size) s r; put = nothing before }

  module _ (joined : TakesJoined S takes) (s t : R) (old here new : ReadBuffer) (before now after : S) (size : BodyLength) (was is : BodyReader)
      (so : TakesPart (body_call takes source size) (body_moment s old before) (body_moment t here now) was) where
    pub more_body : ContinuesBody takes (reader_moment was here now) (reader_moment is new after) (Some Partial)
        → TakesPart (body_call takes source size) (body_moment s old before) (body_moment t new after) is
    more_body on = record {
      text = so.text ++ on.text;
      content = so.content ++ on.content;
      part = on.outcome size so.text so.content so.part;
      reads = with_text source (AwaitsBody size) s t old here new so.text on.text so.reads on.cut;
      put = joined before now after so.content on.content so.put on.put;
    }

    pub whole_body : ContinuesBody takes (reader_moment was here now) (reader_moment is new after) (Some Complete)
        → TakesBody (body_call takes source size) (body_moment s old before) (body_moment t new after)
    whole_body on = record {
      text = so.text ++ on.text;
      body = so.content ++ on.content;
      body_is = on.outcome size so.text so.content so.part;
      reads = with_text source (AwaitsBody size) s t old here new so.text on.text so.reads on.cut;
      put = joined before now after so.content on.content so.put on.put;
    }

    pub malformed_body : (why : RequestFault) → ContinuesBody takes (reader_moment was here now) (reader_moment is new after) (Some (Invalid why))
        → BreaksBody (body_call takes source size) (body_moment s old before) (body_moment t new after) why
    malformed_body why on = record {
      text = so.text ++ on.text;
      reads = with_text source (AwaitsBody size) s t old here new so.text on.text so.reads on.cut;
      breaks = breaks_anyway (IsAtEnd (source.remaining t)) why size ((so.text ++ on.text) ++ new.held) (on.outcome size so.text so.content so.part);
    }

  module _ (s m t : R) (old here new : ReadBuffer) (before after : S) (size : BodyLength) (reader : BodyReader)
      (so : TakesPart (body_call takes source size) (body_moment s old before) (body_moment m here after) reader)
      (awaits : AwaitsMoreBody reader here.held) where
    pub ended_body : IsAtEnd (source.remaining m) → BreaksBody (body_call takes source size) (body_moment s old before) (body_moment m here after) fault.Body
    ended_body at_end =
        record {
          text = so.text;
          reads = so.reads;
          breaks = ended_breaks _ size (so.text ++ here.held) (awaits_body size so.text so.content here.held reader so.part awaits) at_end;
        }

    pub body_read_on : ReadsOn (source.remaining m) (source.remaining t) here new → IsRead source.gives (read_moment m here) (read_moment t new)
        → TakesPart (body_call takes source size) (body_moment s old before) (body_moment t new after) reader
    body_read_on on read = record {
      text = so.text;
      content = so.content;
      part = so.part;
      reads =
          read_after source (AwaitsBody size) s m t old here new so.text so.reads (awaits_body size so.text so.content here.held reader so.part awaits) on read;
      put = so.put;
    }

    pub body_stops_there : (failed : Bool) (why : ReadError) → ReadFails source (read_moment m here) (failed_call t failed why)
        → StopsWhile source (AwaitsBody size) (read_moment s old) (failed_call t failed why)
    body_stops_there failed why last =
        stops_reading source (AwaitsBody size) s m t failed old here so.text why so.reads (awaits_body size so.text so.content here.held reader so.part awaits)
        last
